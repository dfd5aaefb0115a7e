-- What it is for a list of pages to be linked both ways in the pages' records, and what a push, a removal and a pop leave. A contract takes a list to
-- be `Sound` and speaks of `pages_of`, the pages that walking it finds; `Linked`, with the pages named, is what the laws are about. Each of `Pushed`,
-- `Removed` and `Taken` fixes all records and the list: links by `sound` and `alone`, the rest by `others`, `marks` and `level`.
use Rattle.std.specs.Prelude.{ℕ, ◌+◌, ◌-◌, ◌<◌, cond, List, [], ◌∷◌, ◌++◌, ◌≢◌, ◌≡◌, eqb, length, Option, Some, None}
use Rattle.definition.specs.declared.Record.{Record}
use Rattle.definition.specs.declared.Links.{Links}
use Rattle.definition.specs.Basics.{upd}
use Rattle.definition.specs.World.{pages_of}

-- ---- lists of numbers

-- P of each element
pub data All (P : ℕ → Type 0) : List ℕ → Type 0 where
  all_none : All P []
  all_more : {x : ℕ} {xs : List ℕ} → P x → All P xs → All P (x ∷ xs)

-- p is none of the elements
abbrev pub Out : ℕ → List ℕ → Type 0
Out p xs = All (λ (x : ℕ). p ≢ x) xs

-- p is one of the elements
abbrev pub In : ℕ → List ℕ → Type 0
In p xs = Out p xs → ⊥

-- the elements but p
unfoldable pub without : ℕ → List ℕ → List ℕ
without p [] = []
without p (x ∷ xs) = cond (eqb x p) (without p xs) (x ∷ without p xs)

-- the two have no element in common
abbrev pub Apart : List ℕ → List ℕ → Type 0
Apart xs ys = All (λ (x : ℕ). Out x ys) xs

pub data Distinct : List ℕ → Type 0 where
  distinct_none : Distinct []
  distinct_more : {x : ℕ} {xs : List ℕ} → Out x xs → Distinct xs → Distinct (x ∷ xs)

-- ---- links: "A neighbour is 0 for none, else its page number plus 1"

-- a run of pages: e stands before the first, x is the first (or z, of none), b the last (or e, of none), z stands after the last
pub data Seg (f : ℕ → Record) : ℕ → ℕ → List ℕ → ℕ → ℕ → Type 0 where
  seg_none : {e x b z : ℕ} → x ≡ z → b ≡ e → Seg f e x [] b z
  seg_more
      : {e x p : ℕ} {xs : List ℕ} {b z : ℕ}
      → x ≡ p + 1 → (f p).earlier ≡ e → Seg f (p + 1) (f p).later xs b z → Seg f e x (p ∷ xs) b z

-- the pages of the list l, of the n pages that have a record in f, are xs, from front to back
pub record Linked (f : ℕ → Record) (n : ℕ) (l : Links) (xs : List ℕ) : Type 0 where
  pub chain : Seg f 0 l.front xs l.back 0
  pub counted : l.count ≡ length xs
  pub distinct : Distinct xs
  pub inside : All (λ (x : ℕ). x < n) xs

-- the walk finds a list that is linked both ways: what every `requires` on a list rests on
abbrev pub Sound : (ℕ → Record) → ℕ → Links → Type 0
Sound f n l = Linked f n l (pages_of f l)

-- ---- what a call leaves

-- what pushing the pages ps at the back, in order, makes of the records f and the list l: g and r
pub record Pushed (f : ℕ → Record) (l : Links) (ps : List ℕ) (g : ℕ → Record) (n : ℕ) (r : Links) : Type 0 where
  pub pages : pages_of g r ≡ pages_of f l ++ ps
  pub sound : Sound g n r
  pub others : (q : ℕ) → Out q (pages_of f l) → Out q ps → g q ≡ f q
  pub marks : (q : ℕ) → (g q).marks ≡ (f q).marks
  pub level : (q : ℕ) → (g q).level ≡ (f q).level

-- a record that has left its list
abbrev pub unlinked : Record → Record
unlinked r = record { marks = r.marks; level = r.level; earlier = 0; later = 0 }

-- what taking the page p out makes of the records f and the list l: g and r
pub record Removed (f : ℕ → Record) (l : Links) (p : ℕ) (g : ℕ → Record) (n : ℕ) (r : Links) : Type 0 where
  pub pages : pages_of g r ≡ without p (pages_of f l)
  pub sound : Sound g n r
  pub alone : g p ≡ unlinked (f p)
  pub others : (q : ℕ) → Out q (pages_of f l) → g q ≡ f q
  pub marks : (q : ℕ) → (g q).marks ≡ (f q).marks
  pub level : (q : ℕ) → (g q).level ≡ (f q).level

-- what taking the page p off the back makes of the records f and the list l: g and r
pub record Taken (f : ℕ → Record) (l : Links) (p : ℕ) (g : ℕ → Record) (n : ℕ) (r : Links) : Type 0 where
  pub pages : pages_of f l ≡ pages_of g r ++ (p ∷ [])
  pub sound : Sound g n r
  pub inside : p < n
  pub alone : g p ≡ unlinked (f p)
  pub others : (q : ℕ) → Out q (pages_of f l) → g q ≡ f q
  pub marks : (q : ℕ) → (g q).marks ≡ (f q).marks
  pub level : (q : ℕ) → (g q).level ≡ (f q).level

-- what a pop answers: none where the list is empty, else its last page and the list without it
abbrev pub Pops : (ℕ → Record) → Links → (ℕ → Record) → ℕ → Option (ℕ × Links) → Type 0
Pops f l g n None = (pages_of f l ≡ []) × (g ≡ f)
Pops f l g n (Some (p, r)) = Taken f l p g n r

-- ---- the record of a neighbour

-- f but for r at the page that the neighbour c names, where it names one
unfoldable pub upd_neighbour : (ℕ → Record) → ℕ → Record → ℕ → Record
upd_neighbour f c r = cond (eqb c 0) f (upd f (c - 1) r)

abbrev pub later_at : (ℕ → Record) → ℕ → ℕ → ℕ → Record
later_at f c v =
    upd_neighbour f c (record { marks = (f (c - 1)).marks; level = (f (c - 1)).level; earlier = (f (c - 1)).earlier; later = v })

abbrev pub earlier_at : (ℕ → Record) → ℕ → ℕ → ℕ → Record
earlier_at f c v =
    upd_neighbour f c (record { marks = (f (c - 1)).marks; level = (f (c - 1)).level; earlier = v; later = (f (c - 1)).later })
