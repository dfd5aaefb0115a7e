-- Bytes and pages, over any page size P: what P * page + offset is when it is divided, and how ranges of pages lie as ranges of bytes. A product with P is an
-- atom for omega, which multiplies P * (a + b) out by itself; whatever else it would have to know of such products, or of x / P and x % P, stands here. Where a
-- byte lies in a page, or below so many pages, P is not 0 (`some_byte`), so that no law here has to be told so but the two that speak of any address.
use Prim.Native.Nat.{ℕ, ◌+◌, ◌-◌, ◌*◌, ◌/◌, ◌%◌, ◌≤◌, ◌<◌}
use mathlib.Core.Path.{◌≡◌, sym, ap, ◌∙◌}
use native.Mathlib.Decide.{dec_lt}
use native.Mathlib.Nat.{
  add-mod,
  div-add-mod,
  div-eq_of_lt,
  div-lt_iff_lt-mul,
  le-div_iff_mul-le,
  le_of_mul-le-mul_left,
  mod-eq_of_lt,
  mod-lt,
  mul-add,
  mul-add-div,
  mul-add-mod_self_left,
  mul-div_right,
  mul-le-mul_left,
  mul-le-mul_right,
  mul-mod_right,
  mul-sub,
  mul-zero,
}
use native.Mathlib.Omega.{arith}

module _ (P : ℕ) where
  -- ---- products

  -- pages in order are bytes in order
  pub pages_order : {a b : ℕ} → a ≤ b → P * a ≤ P * b
  pages_order h = mul-le-mul_left P h

  -- as many pages are as many bytes; omega does not see through the product
  pub pages_same : {a b : ℕ} → a ≡ b → P * a ≡ P * b
  pages_same e = ap (λ (x : ℕ). P * x) e

  -- pages that are so many more
  pub pages_sum : {p : ℕ} (a n : ℕ) → p ≡ a + n → P * p ≡ P * a + P * n
  pages_sum a n e = ap (λ (x : ℕ). P * x) e ∙ mul-add P a n

  -- no page has no bytes; a product computes only at literals
  pub pages_none : P * 0 ≡ 0
  pages_none = mul-zero P

  -- what is left of pages, in bytes
  pub pages_less : (a b : ℕ) → P * (a - b) ≡ P * a - P * b
  pages_less a b = mul-sub P a b

  -- a whole page lies between a page and a later one
  pub page_before : {a b : ℕ} → a < b → P * a + P ≤ P * b
  page_before {a} {b} h = omega (arith, mul-le-mul_left {m = a + 1} {n = b} P (omega arith))

  -- a byte of a page lies below a later page
  pub byte_inside : (a b i : ℕ) → a < b → i < P → P * a + i < P * b
  byte_inside a b i h k = omega (arith, page_before h)

  -- the x-th byte from the page p on, of n pages that end by the page q, lies before it
  pub ranges_apart : (p n q x : ℕ) → p + n ≤ q → x < P * n → P * p + x < P * q
  ranges_apart p n q x h k = omega (arith, pages_order {a = p + n} {b = q} h)

  -- bytes bound pages: fewer than if pages were smaller
  pub pages_bound : {k : ℕ} → k ≤ P → (a : ℕ) {n : ℕ} → P * a ≤ n → k * a ≤ n
  pages_bound {k} h a l = omega (arith, mul-le-mul_right {m = k} {n = P} a h)

  -- where there is a byte, a page has some
  pub some_byte : {x : ℕ} (n : ℕ) → x < P * n → 0 < P
  some_byte n h = go (dec_lt 0 P)
    where
      go : Dec (0 < P) → 0 < P
      go (yes p) = p
      go (no z) = let e : P ≡ 0 = omega arith in absurd (omega (arith, ap (λ (y : ℕ). y * n) e))

  -- ---- an address, its page and its offset

  pub address_is : (x : ℕ) → P * (x / P) + x % P ≡ x
  address_is x = div-add-mod x P

  pub pages_aligned : (p : ℕ) → P * p % P ≡ 0
  pages_aligned p = mul-mod_right P p

  -- an aligned address is its page's
  pub aligned_is : (x : ℕ) → x % P ≡ 0 → P * (x / P) ≡ x
  aligned_is x e = omega (arith, address_is x)

  -- an address by its page and its offset
  pub address_by : {x : ℕ} (p i : ℕ) → x / P ≡ p → x % P ≡ i → x ≡ P * p + i
  address_by {x} p i e h = sym (address_is x) ∙ ap (λ (q : ℕ). P * q + x % P) e ∙ ap (λ (o : ℕ). P * p + o) h

  pub offset_on : (p x : ℕ) → (P * p + x) % P ≡ x % P
  offset_on p x = mul-add-mod_self_left P p x

  -- addresses as far into their pages stay so
  pub offsets_on : (a b j : ℕ) → a % P ≡ b % P → (a + j) % P ≡ (b + j) % P
  offsets_on a b j e = add-mod a j P ∙ ap (λ (x : ℕ). (x + j % P) % P) e ∙ sym (add-mod b j P)

  -- the page of an address below so many pages is one of them
  pub page_below : {x n : ℕ} → x < P * n → x / P < n
  page_below {x} {n} h = (div-lt_iff_lt-mul (some_byte n h)).1 (omega arith)

  -- ---- of any address, where a page has bytes

  module _ (positive : 0 < P) where
    pub offset_small : (x : ℕ) → x % P < P
    offset_small x = mod-lt x positive

    pub page_on : (p x : ℕ) → (P * p + x) / P ≡ p + x / P
    page_on p x = mul-add-div positive p x

    -- the same of an address that is given by an equation
    pub page_from : {x : ℕ} (p y : ℕ) → x ≡ P * p + y → x / P ≡ p + y / P
    page_from p y e = ap (λ (z : ℕ). z / P) e ∙ page_on p y

    pub pages_of_lem : (p : ℕ) → P * p / P ≡ p
    pages_of_lem p = mul-div_right p positive

    -- an address from a page on is of no earlier page
    pub page_reached : {p x : ℕ} → P * p ≤ x → p ≤ x / P
    page_reached {p} {x} h = (le-div_iff_mul-le positive).1 (omega arith)

    -- bytes in order are pages in order
    pub bytes_order : {a b : ℕ} → P * a ≤ P * b → a ≤ b
    bytes_order h = le_of_mul-le-mul_left h positive

  -- ---- the byte i of the page p

  pub page_of_lem : (p i : ℕ) → i < P → (P * p + i) / P ≡ p
  page_of_lem p i h = page_on (omega arith) p i ∙ omega (arith, div-eq_of_lt h)

  pub offset_of : (p i : ℕ) → i < P → (P * p + i) % P ≡ i
  offset_of p i h = offset_on p i ∙ mod-eq_of_lt h

  pub page_at : {x : ℕ} (p i : ℕ) → x ≡ P * p + i → i < P → x / P ≡ p
  page_at p i e h = ap (λ (y : ℕ). y / P) e ∙ page_of_lem p i h

  pub offset_at : {x : ℕ} (p i : ℕ) → x ≡ P * p + i → i < P → x % P ≡ i
  offset_at p i e h = ap (λ (y : ℕ). y % P) e ∙ offset_of p i h

  -- two names of one byte
  pub same_page : (p q i j : ℕ) → P * p + i ≡ P * q + j → i < P → j < P → p ≡ q
  same_page p q i j e h k = sym (page_of_lem p i h) ∙ page_at q j e k

  pub same_offset : (p q i j : ℕ) → P * p + i ≡ P * q + j → i < P → j < P → i ≡ j
  same_offset p q i j e h k = sym (offset_of p i h) ∙ offset_at q j e k
