-- The page's own record is on no walk of the list, so that the list is as it was when the page is pushed.
use Rattle.list.proofs.Laws.{linked_pages, linked_sound}
use Rattle.region.specs.Rep.{free_record}
use Rattle.region.proofs.Laws.{linked_past}
use Rattle.region.proofs.admit.Goals as goal

pub push_back-requires : goal.push_back-requires
push_back-requires c =
    let a = c.args in
    let d = c.store in
    let L = linked_past a.page (free_record a.level a.zeroed a.kernel) c.requires.sound c.requires.out in
    rw (d.ensures.records, d.auto.records, c.level_word-word.ensures, c.free_marks-marks.ensures) record {
      sound = linked_sound L;
      page_bound = c.requires.level_bound.1;
      out = rw (linked_pages L) c.requires.out;
      page_bound_2 = c.requires.page_bound;
    }
