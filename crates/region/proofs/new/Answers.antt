-- The cleared records and the empty row are a sound region in which no frame starts.
use mathlib.Core.Path.{refl}
use native.Mathlib.Omega.{arith}
use Rattle.definition.specs.World.{record_at}
use Rattle.region.proofs.Addresses.{number_few}
use Rattle.region.proofs.Beginning.{count_is, begins_at, ends_low, blank_sound, blank, begun}
use Rattle.region.proofs.new.Goals as goal

pub clear-requires : goal.clear-requires
clear-requires c =
    rw (count_is c.args.board c.args.start c.args.pages c.table_pages-tables.ensures) c.requires.pages_bound_2.1

pub organize-requires : goal.organize-requires
organize-requires c =
    let k = c.clear in
    let t = c.table_pages-tables.ensures in
    let e = count_is c.args.board c.args.start c.args.pages t in
    let d = begins_at c.args.board c.args.start c.args.pages t _ c.page_number.ensures in
    let n = number_few c.requires.fit c.args.start.0 (omega (arith, c.well_formed, c.ranges)) in
    let low = ends_low c.args.board c.args.start c.args.pages t c.page_number.result (omega (arith, c.page_number.ensures, n)) c.requires.pages_bound.0 c.requires.pages_bound.1 in
    rw (k.ensures.records, k.auto.records, c.empty_row-row.ensures, e, d) record {
      sound_row = blank_sound c.args.board (record_at c.args.records.now) _ c.args.first c.args.start c.args.pages c.requires.pages_bound_2.0 c.requires.pages_bound_2.1;
      count_value = (refl, refl, rw (e, d) at low);
      blank = blank c.args.board (record_at c.args.records.now) _ c.args.first c.args.start c.args.pages c.requires.pages_bound_2.0 c.requires.pages_bound_2.1;
    }

pub returns : goal.returns
returns c =
    let o = c.organize in
    let k = c.clear in
    let t = c.table_pages-tables.ensures in
    let e = count_is c.args.board c.args.start c.args.pages t in
    let d = begins_at c.args.board c.args.start c.args.pages t _ c.page_number.ensures in
    let l = rw c.empty_row-row.ensures at o.ensures in record {
      becomes = begun c.args.board (record_at c.args.records.now) _ c.args.first c.args.start c.args.pages c.requires.pages_bound_2.0 c.requires.pages_bound_2.1 (rw (k.ensures.records, e, d) at l.becomes);
      whole_row = l.whole_row;
    }
