-- `tracker::put_shares` meets its contract. Its texts follow one another, and are the lines of the shares.
use Rattle.std.proofs.Common.{◌++◌, arith}
use Rattle.definition.specs.Text.{bytes_of}
use Rattle.text.proofs.Writing.{wrote_then}
use Rattle.tracker.specs.Stats.{share_of, share_lines}
use Rattle.tracker.proofs.put_shares.Goals as goal

pub returns-clause-wrote : goal.returns-clause-wrote
unfolding bytes_of share_lines
returns-clause-wrote c =
    let n = c.args.c in
    let idle = share_of (bytes_of "        idle: ") n.idle n.total (bytes_of "%" ++ bytes_of "\n") in
    let kernel = share_of (bytes_of "      kernel: ") n.kernel_used n.total (bytes_of "%" ++ bytes_of "\n") in
    let page = share_of (bytes_of "        page: ") n.page_data n.total (bytes_of "%" ++ bytes_of " (") in
    let w2 = wrote_then {a = idle} {b = kernel} c.put_share-next.ensures.wrote c.put_share-next-2.ensures.wrote (omega arith) in
    let w3 = wrote_then {b = page} w2 c.put_share-next-3.ensures.wrote (omega arith) in
    let w4 = wrote_then w3 c.put_number-next.ensures.wrote (omega arith) in
    wrote_then w4 c.put_text.ensures (omega arith)
