-- The torn sheet of one region. The code gets the region by numbers: `from` is the page frame number of its first managed page, `base` that
-- page's number in the records, `past` the number behind its last. Each clause of `Torn` over the rows is `all` over the clause of a placed
-- row, the last part here.
use Rattle.std.specs.Prelude.{
  ◌≡◌,
  ℕ,
  zero,
  suc,
  ◌+◌,
  ◌-◌,
  ◌*◌,
  ◌/◌,
  ◌%◌,
  ◌<◌,
  ◌≤◌,
  Bool,
  true,
  false,
  cond,
  not,
  ◌&&◌,
  ◌||◌,
  List,
  get_or,
  ◌==◌,
  nat_le,
  nat_lt,
  slice_index_or,
  Option,
  Some,
  None,
  MatchOption,
}
use Rattle.definition.specs.declared.Record.{Record}
use Rattle.definition.specs.declared.Links.{Links}
use Rattle.definition.specs.declared.Row.{Row}
use Rattle.definition.specs.Board.{Board}
use Rattle.definition.specs.Basics.{all, sum, range, member}
use Rattle.definition.specs.Frame.{size, levels}
use Rattle.definition.specs.Allocator.{managed}
use Rattle.definition.specs.World.{named_marks, level_in, is_admitted, no_links, pages_of, bare_region}
use Rattle.definition.specs.Torn.{
  Placed,
  Records,
  heads_from,
  heads,
  is_blank,
  is_head,
  is_held_record,
  alone_if_held,
  class_of,
  list_walks,
  on_its_list,
  listed_pages,
  held_as,
}
use Rattle.record.specs.Records.{free_kind, of_kind, free_page}
use Rattle.scan.specs.declared.HeldPages.{HeldPages}

-- ---- of a placed row

abbrev pub placed_at : ℕ → Row → Placed
placed_at base row = record { base = base; row = row }

-- ---- by numbers

unfoldable pub head_at : Records → (from base past h : ℕ) → Bool
head_at f from base past h =
    is_admitted (f h)
    && (nat_lt (f h).marks named_marks
    && (nat_lt (level_in (f h).level) levels
    && ((from + (h - base)) % size (level_in (f h).level) == 0
    && (nat_le (h + size (level_in (f h).level)) past && all (λ q. is_blank (f q)) (range (h + 1) (size (level_in (f h).level) - 1))))))

-- the pages of a head
unfoldable pub head_pages : Records → (from base past h : ℕ) → Option ℕ
head_pages f from base past h = cond (head_at f from base past h) (Some (size (level_in (f h).level))) None

-- the neighbours 0 of a held head
abbrev pub alone : Record → Bool
alone r = r.earlier == 0 && r.later == 0

abbrev pub heads_of : Records → (base past : ℕ) → List ℕ
heads_of f base past = heads_from f (past - base) base past

unfoldable pub tiled_at : Records → (from base past : ℕ) → Bool
tiled_at f from base past = all (head_at f from base past) (heads_of f base past)

unfoldable pub alone_at : Records → (base past : ℕ) → Bool
alone_at f base past = all (λ h. alone_if_held (f h)) (heads_of f base past)

unfoldable pub held_at : Bool → Records → (base past : ℕ) → ℕ
held_at kernel f base past = sum (λ h. held_as kernel (f h)) (heads_of f base past)

-- from one page to another there are none but unheld frames of one page
abbrev pub Free : Records → (first past : ℕ) → Type 0
Free f first past = (q : ℕ) → first ≤ q → q < past → free_page (f q) ≡ true

-- no page of the region has a mark bit but those named
abbrev pub Marked : Records → (base past : ℕ) → Type 0
Marked f base past = (q : ℕ) → base ≤ q → q < past → (f q).marks < named_marks

-- the marks and the level, as one number, of the frames on the list k, but for KERNEL
abbrev pub kind_on : ℕ → ℕ
kind_on k = free_kind (k / 2) (k % 2 == 1)

-- the number `at` names a page of the region with such a record, with KERNEL or without: of kind_on k it says what `on_at` says of k, where
-- no page has other mark bits
unfoldable pub on_kind : Records → (base past kind at : ℕ) → Bool
on_kind f base past kind at = nat_lt base at && (nat_le at past && of_kind kind (f (at - 1)))

-- the page that it then names
abbrev pub page_on : Records → (base past kind at : ℕ) → Option ℕ
page_on f base past kind at = cond (on_kind f base past kind at) (Some (at - 1)) None

-- the number `at` names an unheld frame of the region and the list k
unfoldable pub on_at : Records → (base past k at : ℕ) → Bool
on_at f base past k at =
    nat_lt base at && (nat_le at past && (is_admitted (f (at - 1)) && (not (is_held_record (f (at - 1))) && class_of (f (at - 1)) == k)))

-- and its earlier neighbour is prev
unfoldable pub node_at : Records → (base past k prev at : ℕ) → Bool
node_at f base past k prev at =
    nat_lt base at
    && (nat_le at past
    && (is_admitted (f (at - 1))
    && (not (is_held_record (f (at - 1))) && (class_of (f (at - 1)) == k && (f (at - 1)).earlier == prev))))

-- and its later neighbour is next
abbrev pub back_node_at : Records → (base past k at next : ℕ) → Bool
back_node_at f base past k at next = on_at f base past k at && (f (at - 1)).later == next

unfoldable pub walks_at : Records → (base past k : ℕ) → (count prev at last : ℕ) → Bool
walks_at f base past k zero prev at last = at == 0 && prev == last
walks_at f base past k (suc n) prev at last = node_at f base past k prev at && walks_at f base past k n at (f (at - 1)).later last

abbrev pub list_at : Records → (base past : ℕ) → List Links → ℕ → Bool
list_at f base past lists k =
    walks_at f base past k (get_or lists k no_links).count 0 (get_or lists k no_links).front (get_or lists k no_links).back

-- both lists of a level
abbrev pub level_at : Records → (base past : ℕ) → List Links → ℕ → Bool
level_at f base past lists level = list_at f base past lists (2 * level) && list_at f base past lists (2 * level + 1)

unfoldable pub listed_at : Records → List Links → (base past : ℕ) → Bool
listed_at f lists base past =
    all (λ h. is_held_record (f h) || member h (pages_of f (slice_index_or lists (class_of (f h)) no_links))) (heads_of f base past)

-- ---- what the functions answer

-- the heads are as the sheet says, and these are the pages held without and with KERNEL
pub record Tally (f : Records) (from base past : ℕ) (held : HeldPages) : Type 0 where
  pub whole : (tiled_at f from base past && alone_at f base past) ≡ true
  pub page : held.page ≡ held_at false f base past
  pub kernel : held.kernel ≡ held_at true f base past
  pub few : held.page + held.kernel ≤ past - base

-- whether they are, and if so the pages held
abbrev pub Tallied : Records → (from base past : ℕ) → Option HeldPages → Type 0
Tallied f from base past r = MatchOption r ((tiled_at f from base past && alone_at f base past) ≡ false) (Tally f from base past)

-- the four clauses of the sheet that speak of a region's records
unfoldable pub whole_at : Records → List Links → (from base past : ℕ) → Bool
whole_at f lists from base past =
    tiled_at f from base past && (alone_at f base past && (all (list_at f base past lists) (range 0 6) && listed_at f lists base past))

-- a region is whole, and these are the pages held without and with KERNEL, which with those on its lists are all that it manages
pub record WholeAt (f : Records) (row : Row) (from base past : ℕ) (held : HeldPages) : Type 0 where
  pub whole : whole_at f row.lists from base past ≡ true
  pub page : held.page ≡ held_at false f base past
  pub kernel : held.kernel ≡ held_at true f base past
  pub pages : listed_pages (placed_at base row) + held.page + held.kernel ≡ past - base

-- whether it is, and if so the pages held
abbrev pub AuditedAt : Records → Row → (from base past : ℕ) → Option HeldPages → Type 0
AuditedAt f row from base past r = MatchOption r (whole_at f row.lists from base past ≡ false) (WholeAt f row from base past)

-- ---- the same of a placed row

module _ (board : Board) where
  abbrev pub tiled_row : Records → Placed → Bool
  tiled_row f x = all (is_head board f x) (heads board f x)

  abbrev pub alone_row : Records → Placed → Bool
  alone_row f x = all (λ h. alone_if_held (f h)) (heads board f x)

  abbrev pub walks_row : Records → Placed → Bool
  walks_row f x = all (list_walks board f x) (range 0 6)

  abbrev pub listed_row : Records → Placed → Bool
  listed_row f x = all (on_its_list f x) (heads board f x)

  abbrev pub held_row : Bool → Records → Placed → ℕ
  held_row kernel f x = sum (λ h. held_as kernel (f h)) (heads board f x)

  abbrev pub whole_row : Records → Placed → Bool
  whole_row f x = tiled_row f x && (alone_row f x && (walks_row f x && listed_row f x))

  pub record WholeRow (f : Records) (x : Placed) (held : HeldPages) : Type 0 where
    pub whole : whole_row f x ≡ true
    pub page : held.page ≡ held_row false f x
    pub kernel : held.kernel ≡ held_row true f x
    pub pages : listed_pages x + held.page + held.kernel ≡ managed board (bare_region board x.row)

  abbrev pub Audited : Records → Placed → Option HeldPages → Type 0
  Audited f x r = MatchOption r (whole_row f x ≡ false) (WholeRow f x)
