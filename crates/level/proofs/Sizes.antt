-- Laws of the levels' sizes, each proved once over the level, and of bytes over any board.
use Prim.Native.Nat.{ℕ, ◌+◌, ◌-◌, ◌*◌, ◌/◌, ◌%◌, ◌∣◌, ◌≤◌, ◌<◌}
use mathlib.Core.Path.{◌≡◌, sym, ap, ◌∙◌}
use native.Mathlib.Nat.{
  le_of_suc-le-suc,
  sub-add_cancel,
  one-le-pow,
  pow-le-pow_right,
  mul_assoc,
  mul_left_comm,
  mul-sub,
  mul-pos,
  mul-le-mul_left,
  mul-div_cancel,
  mul-div-mul_left,
  mod-eq-sub-mul-div,
  mod-mod_of_dvd,
  zero-mod,
  dvd-mul_left,
}
use native.Mathlib.Numerals.{add-one}
use native.Mathlib.Omega.{arith}
use lib.Dec.{lit<}
use lib.Pow.{pow-add}
use Rattle.definition.specs.Board.{Board}
use Rattle.definition.specs.Frame.{size, levels, child_count}
use Rattle.definition.specs.Calls.{bytes_of_level}

pub size_positive : (l : ℕ) → 0 < size l
size_positive l = one-le-pow l 512 (lit< tt)

pub size_next : (l : ℕ) → size (l + 1) ≡ child_count * size l
size_next l = rw add-one (omega arith)

pub size_rises : {l m : ℕ} → l ≤ m → size l ≤ size m
size_rises h = pow-le-pow_right (lit< tt) h

pub size_most : {l : ℕ} → l < levels → size l ≤ size (levels - 1)
size_most h = size_rises (le_of_suc-le-suc h)

-- a larger frame is made of whole smaller ones
pub size_whole : (l m : ℕ) → l ≤ m → size m ≡ size (m - l) * size l
size_whole l m h = sym (ap size (sub-add_cancel h)) ∙ pow-add 512 (m - l) l

-- what is aligned for a larger frame is aligned for a smaller one
pub aligned_below : (l m n : ℕ) → l ≤ m → n % size m ≡ 0 → n % size l ≡ 0
aligned_below l m n h e =
    let divides : size l ∣ size m = rw (size_whole l m h) (dvd-mul_left (size l) (size (m - l))) in
    sym (mod-mod_of_dvd (size l) n divides) ∙ ap (λ (k : ℕ). k % size l) e ∙ zero-mod (size l)

-- the children of a frame above level 0, as `child_count` has them
pub children : (l : ℕ) → 0 < l → size l / size (l - 1) ≡ child_count
children l h =
    let above : l ≡ l - 1 + 1 = omega arith in
    ap (λ (n : ℕ). n / size (l - 1)) (ap size above ∙ size_next (l - 1)) ∙ mul-div_cancel child_count (size_positive (l - 1))

module _ (b : Board) where
  pub bytes_page : bytes_of_level b 0 ≡ b.page
  bytes_page = omega arith

  pub bytes_next : (l : ℕ) → bytes_of_level b (l + 1) ≡ child_count * bytes_of_level b l
  bytes_next l = rw size_next (mul_left_comm b.page child_count (size l))

  pub bytes_rise : {l m : ℕ} → l ≤ m → bytes_of_level b l ≤ bytes_of_level b m
  bytes_rise h = mul-le-mul_left b.page (size_rises h)

  pub bytes_most : {l : ℕ} → l < levels → bytes_of_level b l ≤ bytes_of_level b (levels - 1)
  bytes_most h = bytes_rise (le_of_suc-le-suc h)

  pub bytes_positive : 0 < b.page → (l : ℕ) → 0 < bytes_of_level b l
  bytes_positive p l = mul-pos p (size_positive l)

  -- a page's address is as many pages past a frame's edge as its page frame number
  pub bytes_aligned : 0 < b.page → (l n : ℕ) → b.page * n % bytes_of_level b l ≡ b.page * (n % size l)
  bytes_aligned p l n =
      mod-eq-sub-mul-div (b.page * n) (bytes_of_level b l)
      ∙ rw (mul-div-mul_left n (size l) p, mul_assoc b.page (size l) (n / size l), mod-eq-sub-mul-div n (size l), mul-sub)
