-- The statistics as the lines that are written, and how long they are at most. Every number has at most 20 digits, whatever the counters are.
use Rattle.std.proofs.Common.{◌≡◌, ◌≤◌, ◌++◌, length, append_assoc, arith, length-append}
use Rattle.definition.specs.declared.Counters.{Counters}
use Rattle.definition.specs.Text.{bytes_of}
use Rattle.definition.specs.Tracker.{tracker_stats}
use Rattle.text.proofs.Digits.{length_digits}
use Rattle.tracker.specs.Stats.{counts_line, hundredths, share_of, share_lines}

pub stats_lines : (c : Counters) → bytes_of "memory status (in frames):\n" ++ counts_line c ++ share_lines c ≡ tracker_stats c
unfolding counts_line share_of share_lines tracker_stats
stats_lines c = simp append_assoc

pub stats_length : (c : Counters) → length (tracker_stats c) ≤ 368
unfolding bytes_of tracker_stats
stats_length c =
    let idle = hundredths c.idle c.total in
    let kernel = hundredths c.kernel_used c.total in
    let page = hundredths c.page_data c.total in
    simp length-append
    (omega (
      arith,
      length_digits c.total,
      length_digits c.allocated,
      length_digits c.freed,
      length_digits c.reclaimed,
      length_digits c.waiting,
      length_digits c.idle,
      length_digits idle,
      length_digits c.kernel_used,
      length_digits kernel,
      length_digits c.page_data,
      length_digits page,
      length_digits c.pager_outstanding,
    ))
