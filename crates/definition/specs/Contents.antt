-- The contents of frames, after the methods of frame.rs's Frame: which bytes a call writes, and what becomes of the ZEROED mark. `write` and
-- `fill` are added by 01. A range is named by its first address and its length in bytes.
use Rattle.std.specs.Prelude.{ℕ, zero, suc, ◌+◌, ◌-◌, ◌*◌, Bool, true, false, cond, ◌&&◌, List, [], ◌∷◌, leb, ltb, eqb, length, get_or}
use Rattle.std.proofs.Math.Option.{Option, none, some}
use Rattle.definition.specs.Board.{Board}
use Rattle.definition.specs.Frame.{Frame, size, with_zeroed, is_zeroed}
use Rattle.definition.specs.Store.{Memory, Store, with_memory, mark}

abbrev pub within : ℕ → ℕ → ℕ → Bool
within start len a = leb start a && ltb a (start + len)

-- each byte of the range set to one value
unfoldable pub filled : ℕ → ℕ → ℕ → Memory → Memory
filled start len byte m a = cond (within start len a) byte (m a)

-- the bytes written from an address on
unfoldable pub written : ℕ → List ℕ → Memory → Memory
written start bytes m a = cond (within start (length bytes) a) (get_or bytes (a - start) 0) (m a)

-- 01: "Overlapping copies act as if all was read first"
unfoldable pub moved : ℕ → ℕ → ℕ → Memory → Memory
moved to from len m a = cond (within to len a) (m (from + (a - to))) (m a)

-- the bytes of a range
unfoldable pub bytes_at : Memory → ℕ → ℕ → List ℕ
bytes_at m start zero = []
bytes_at m start (suc len) = m start ∷ bytes_at m (start + 1) len

abbrev pub size_of : Option Frame → ℕ
size_of none = 0
size_of (some f) = size f.level

-- 423, Frame::size in bytes
abbrev pub frame_bytes : Board → Store → ℕ → ℕ
frame_bytes b s p = b.page * size_of (s.allocator.frames p)

abbrev pub is_zeroed_at : Store → ℕ → Bool
is_zeroed_at s p = is_zeroed (s.allocator.frames p)

-- 430, zero
unfoldable pub zero_frame : Board → Store → ℕ → Store
zero_frame b s p = mark (with_zeroed true) (with_memory s (filled (b.page * p) (frame_bytes b s p) 0 s.memory)) p

-- 443, set_not_zero
unfoldable pub set_not_zero : Store → ℕ → Store
set_not_zero s p = mark (with_zeroed false) s p

-- 01: "Added `write` and `fill` clear the mark"
unfoldable pub fill_frame : Board → Store → ℕ → ℕ → ℕ → ℕ → Store
fill_frame b s p off len byte = set_not_zero (with_memory s (filled (b.page * p + off) len byte s.memory)) p

unfoldable pub write_frame : Board → Store → ℕ → ℕ → List ℕ → Store
write_frame b s p off bytes = set_not_zero (with_memory s (written (b.page * p + off) bytes s.memory)) p

-- 01: "sets the mark if that is the whole frame"
unfoldable pub zero_range : Board → Store → ℕ → ℕ → ℕ → Store
zero_range b s p off len =
    let cleared = with_memory s (filled (b.page * p + off) len 0 s.memory) in
    cond (eqb off 0 && eqb len (frame_bytes b s p)) (mark (with_zeroed true) cleared p) cleared

-- 491, copy_contents_from: between two zeroed frames nothing; from a zeroed one the range is zeroed; else the bytes are copied
unfoldable pub copy_contents_from : Board → Store → (p doff q soff len : ℕ) → Store
copy_contents_from b s p doff q soff len =
    cond (is_zeroed_at s q)
    (cond (is_zeroed_at s p) s (zero_range b s p doff len))
    (set_not_zero (with_memory s (moved (b.page * p + doff) (b.page * q + soff) len s.memory)) p)

-- 527, copy_contents_from_physaddr
unfoldable pub copy_contents_from_physaddr : Board → Store → (p doff source len : ℕ) → Store
copy_contents_from_physaddr b s p doff source len =
    set_not_zero (with_memory s (moved (b.page * p + doff) source len s.memory)) p
