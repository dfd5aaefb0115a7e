-- A page put behind the last of a list: its record names the old back, and the old back's, where there is one, names it.
use Prim.Native.Nat.{ℕ, ◌+◌, ◌<◌}
use mathlib.Core.Bool.{cond}
use mathlib.Core.List.{List, [], ◌∷◌, ◌++◌}
use mathlib.Core.Path.{◌≡◌, refl, sym, ap, ◌∙◌}
use lib.Dec.{eqb}
use lib.ListN.{length-append}
use Rattle.definition.specs.declared.Record.{Record}
use Rattle.definition.specs.declared.Links.{Links}
use Rattle.definition.specs.World.{pages_of}
use Rattle.definition.proofs.Basics.{upd_same, upd_other, upd_all}
use Rattle.record.specs.Records.{with_links}
use Rattle.list.specs.Linked.{Out, Linked, Sound, Pushed, later_at}
use Rattle.list.specs.Linked.All.{all_none, all_more}
use Rattle.list.specs.Linked.Seg.{seg_none, seg_more}
use Rattle.list.proofs.Laws.{all_map, all_append, all_head, distinct_snoc, seg_frame, seg_append, linked_pages, linked_sound, back_of_lem}
use Rattle.list.proofs.Joining.{neighbour_other, neighbour_kept, joined_left}

module _ (f : ℕ → Record) (n : ℕ) (l : Links) (p : ℕ) (i : p < n) where
  abbrev f1 : ℕ → Record
  f1 = with_links f p l.back 0

  abbrev f2 : ℕ → Record
  f2 = later_at f1 l.back (p + 1)

  abbrev r : Links
  r = record { front = cond (eqb l.back 0) (p + 1) l.front; back = p + 1; count = l.count + 1 }

  linked : {xs : List ℕ} → Linked f n l xs → Out p xs → Linked f2 n r (xs ++ (p ∷ []))
  linked {xs} k o =
      let h = neighbour_other f1 l.back _ p (λ e. back_of_lem xs k e o) ∙ upd_same f p _ in
      let s = seg_frame (all_map (λ x u. upd_other f p _ x (λ e. u (sym e))) o) k.chain in
      record {
        chain = seg_append (joined_left (p + 1) k.distinct s)
            (seg_more refl (ap (λ (r : Record). r.earlier) h) (seg_none (ap (λ (r : Record). r.later) h) refl));
        counted = rw (length-append xs (p ∷ [])) (ap (λ (m : ℕ). m + 1) k.counted);
        distinct = distinct_snoc k.distinct o;
        inside = all_append k.inside (all_more i all_none);
      }

  pub pushed : Sound f n l → Out p (pages_of f l) → Pushed f l (p ∷ []) f2 n r
  pushed k o =
      record {
        pages = linked_pages (linked k o);
        sound = linked_sound (linked k o);
        others = λ q a b. neighbour_other f1 l.back _ q (λ e. back_of_lem (pages_of f l) k e a) ∙ upd_other f p _ q (all_head b);
        marks = λ q. neighbour_kept f1 l.back _ (λ r. r.marks) refl q ∙ upd_all (λ q r. r.marks ≡ (f q).marks) f p _ refl (λ q b. refl) q;
        level = λ q. neighbour_kept f1 l.back _ (λ r. r.level) refl q ∙ upd_all (λ q r. r.level ≡ (f q).level) f p _ refl (λ q b. refl) q;
      }
