-- What a proof by computation unfolds. `refl` proves a run where the definitions compute; on its `unfolding` line `everything` stands for all of them,
-- and each other name here for those of one file.
use Rattle.definition.specs.Basics
use Rattle.definition.specs.Text
use Rattle.definition.specs.Refusal
use Rattle.definition.specs.Frame
use Rattle.definition.specs.Allocator
use Rattle.definition.specs.Contents
use Rattle.definition.specs.Tracker
use Rattle.definition.specs.Boot
use Rattle.definition.specs.Calls
use Rattle.definition.specs.World
use Rattle.definition.specs.Torn
use Rattle.definition.specs.Book
use Rattle.definition.specs.Rust
use Rattle.definition.specs.Script

unfoldable pub basics : Unit {0}
unfolding Basics.upd Basics.any Basics.all Basics.sum Basics.range Basics.member Basics.pop_last
basics = tt

unfoldable pub texts : Unit {0}
unfolding Text.bytes_of Text.last_digits
texts = tt

unfoldable pub refusals : Unit {0}
unfolding Refusal.place_in Refusal.first_met
refusals = tt

unfoldable pub frames : Unit {0}
unfolding Frame.pop_from Frame.level_allocate Frame.free Frame.children Frame.split Frame.do_allocate Frame.allocate Frame.kept Frame.split_and_keep Frame.highest Frame.organize
frames = tt

unfoldable pub allocators : Unit {0}
unfolding Allocator.new_allocator Allocator.pass Allocator.do_alloc Allocator.free_in Allocator.is_managed Allocator.is_listed
allocators = tt

unfoldable pub contents : Unit {0}
unfolding Contents.filled Contents.written Contents.moved Contents.bytes_at Contents.zero_frame Contents.set_not_zero Contents.fill_frame Contents.write_frame Contents.zero_range Contents.copy_contents_from Contents.copy_contents_from_physaddr
contents = tt

unfoldable pub trackers : Unit {0}
unfolding Tracker.count_alloc Tracker.count_free Tracker.track_reclaimed Tracker.track_frame_pager Tracker.untrack_frame_pager Tracker.free_frame Tracker.try_alloc_frame Tracker.split_frame Tracker.try_alloc_split_frames Tracker.tracker_stats Tracker.reclaim_up_to Tracker.reclaim_round
trackers = tt

unfoldable pub boots : Unit {0}
unfolding Boot.kept_regions Boot.overlap Boot.boot
boots = tt

unfoldable pub calls : Unit {0}
unfolding Calls.level_from Calls.mine Calls.sheet Calls.perform Calls.step Calls.run
calls = tt

unfoldable pub worlds : Unit {0}
unfolding World.word_at World.record_at World.frame_of World.walk World.pages_of World.back_of World.earlier_in World.later_in World.number_in World.used_rows World.decode_rows World.decode World.record_of World.pages_bytes World.regions_bytes World.memory_bytes World.encode_rows World.encode
worlds = tt

unfoldable pub torn : Unit {0}
unfolding Torn.bare_regions Torn.rows_as_boot Torn.loans_long Torn.placed_from Torn.heads_from Torn.tiled Torn.held_alone Torn.walks Torn.lists_walk Torn.unheld_listed Torn.held_pages Torn.idle_pages Torn.sound Torn.call Torn.boot_call
torn = tt

unfoldable pub books : Unit {0}
unfolding Book.pieces Book.replace Book.counters_of Book.free_up_to
books = tt

unfoldable pub rust : Unit {0}
unfolding Rust.try_alloc_frame Rust.split_frame Rust.zero_range Rust.copy_contents_from Rust.free_frame Rust.reclaim_up_to Rust.reclaim_round Rust.step Rust.run Rust.all_once Rust.common_ground
rust = tt

unfoldable pub scripts : Unit {0}
unfolding Script.parts_by Script.number_from Script.read_numbers Script.ops Script.same_bytes Script.op_named Script.of_fields Script.read_line Script.run_lines Script.output_of Script.lines_on Script.world_after
scripts = tt

unfoldable pub everything : Unit {0}
unfolding basics texts refusals frames allocators contents trackers boots calls worlds torn books rust scripts
everything = tt
