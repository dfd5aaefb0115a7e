-- Parts of the statistics of tracker.rs 235, cut as they are written: the line of the counts, and the lines of the counters with their shares of
-- the total. Behind the first line they are definition's `tracker_stats` (`stats_lines`).
use Rattle.std.specs.Prelude.{ℕ, ◌*◌, ◌/◌, cond, List, ◌++◌, ◌==◌}
use Rattle.definition.specs.declared.Counters.{Counters}
use Rattle.definition.specs.Text.{bytes_of, digits_of}

-- 243 to 250
unfoldable pub counts_line : Counters → List ℕ
counts_line c =
    bytes_of "       total: " ++ digits_of c.total
    ++ (bytes_of " -- a: " ++ digits_of c.allocated)
    ++ (bytes_of " f: " ++ digits_of c.freed)
    ++ (bytes_of " r: " ++ digits_of c.reclaimed)
    ++ (bytes_of ", " ++ digits_of c.waiting)
    ++ bytes_of " waiters\n"

abbrev pub hundredths : ℕ → ℕ → ℕ
hundredths n total = cond (total == 0) 0 (n * 100 / total)

unfoldable pub share_of : List ℕ → ℕ → ℕ → List ℕ → List ℕ
share_of name n total end = name ++ digits_of n ++ (bytes_of " " ++ digits_of (hundredths n total)) ++ end

-- 251 to 258
unfoldable pub share_lines : Counters → List ℕ
share_lines c =
    share_of (bytes_of "        idle: ") c.idle c.total (bytes_of "%" ++ bytes_of "\n")
    ++ share_of (bytes_of "      kernel: ") c.kernel_used c.total (bytes_of "%" ++ bytes_of "\n")
    ++ share_of (bytes_of "        page: ") c.page_data c.total (bytes_of "%" ++ bytes_of " (")
    ++ digits_of c.pager_outstanding
    ++ bytes_of " loaned)\n"
