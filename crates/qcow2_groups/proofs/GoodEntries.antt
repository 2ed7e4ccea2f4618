-- Laws of good L2 entries as whole numbers: a mark or nothing; or, but for bit 63, a place and a mark or nothing.
-- Assumes nothing.
use Rattle.std.proofs.Common.{◌≡◌, ℕ, zero, suc, ◌+◌, ◌-◌, ◌*◌, ◌/◌, ◌%◌, ◌^◌, ◌<◌, ◌≤◌, Bool, true, false, eqb, ◌⊎◌, sym, refl, ap, ◌∙◌, inl, inr, add-zero, mul-le-mul_right, mod-eq_of_lt, add-mul, lt_of_mul-lt-mul_right, one-mul, div-add-mod', zero-mul, arith, pow_pos, pow_mono, pow-add, eq-eqb, eqb-true, if◌then◌else◌}
use native.Mathlib.Nat.{mul-add-mod_self_right, mul-add-div_right, div-eq_of_lt, mul-mod_left}
use borrow.Author.Tests.{eqb-false}
use Rattle.qcow2_spec.specs.Header.{most_length}
use Rattle.qcow2_spec.specs.Entries.{place, good_l2}
use Rattle.qcow2_spec.specs.Good.{MaybeMarked}
use Rattle.qcow2_spec.proofs.Good.{good-entries}
use Rattle.qcow2_plain.proofs.Plain.{low_bits}

-- 1 where bit 0 may be set
abbrev pub mark_of : ℕ → ℕ
mark_of v = if eqb v 3 then 1 else 0

pub mark_one : (v : ℕ) → mark_of v ≤ 1
mark_one v = go (eqb v 3)
  where
    go : (t : Bool) → (if t then 1 else 0) ≤ 1
    go true = omega arith
    go false = omega arith

mark_three : (v : ℕ) → 0 < mark_of v → v ≡ 3
mark_three v h = go (eqb v 3) refl
  where
    go : (t : Bool) → eqb v 3 ≡ t → v ≡ 3
    go true q = eqb-true v 3 q
    go false q = let z : 0 < 0 = rw q at h in absurd (omega arith)

three_mark : (v : ℕ) → v ≡ 3 → mark_of v ≡ 1
three_mark v h = rw (eq-eqb v 3 h)

-- x is the place of a whole cluster inside the image's n bytes, and perhaps a mark
pub record Placed (v C n x : ℕ) : Type 0 where
  pub at : ℕ
  pub mark : ℕ
  pub is : x ≡ at + mark
  pub few : mark ≤ mark_of v
  pub some : 0 < at
  pub whole : at % C ≡ 0
  pub inside : at + C ≤ n

-- of a place and a mark: the place's remainder and quotient
rest_of : (p m C : ℕ) → p % C ≡ 0 → m < C → ((p + m) % C ≡ m) × ((p + m) / C ≡ p / C)
rest_of p m C h l =
    let q : p / C * C ≡ p = omega (arith, div-add-mod' p C) in
    let pos : 0 < C = omega arith in
    (rw (← q) (mul-add-mod_self_right (p / C) C m ∙ mod-eq_of_lt l), rw (← q) (mul-add-div_right pos (p / C) m ∙ rw (div-eq_of_lt l, add-zero, q)))

-- a cluster that starts inside the image ends inside it
whole-inside : (x N b : ℕ) → x % 2 ^ b ≡ 0 → x < N * 2 ^ b → x + 2 ^ b ≤ N * 2 ^ b
whole-inside x N b e h =
    let C : ℕ = 2 ^ b in
    let q : x / C * C ≡ x = omega (arith, div-add-mod' x C) in
    let l : x / C < N = lt_of_mul-lt-mul_right C (rw q h) in
    let m : (x / C + 1) * C ≤ N * C = mul-le-mul_right C (omega (arith, l)) in
    omega (arith, rw (add-mul, one-mul, q) at m)

-- an image with some bytes has a cluster's
pub some_bytes : (L b n : ℕ) → 1 ≤ n → n ≡ L * 2 ^ b → 2 ^ b ≤ n
some_bytes zero b n h e = absurd (omega (arith, zero-mul (2 ^ b), e))
some_bytes (suc L) b n h e = omega (arith, e, add-mul L 1 (2 ^ b), one-mul (2 ^ b))

-- what a number inside the image is, by its remainder
pub placed_of : (v b N n x : ℕ) → 9 ≤ b → n ≡ N * 2 ^ b → 2 ≤ x → x < n → x % 2 ^ b ≤ mark_of v → Placed v (2 ^ b) n x
placed_of v b N n x least fits some below rest =
    let C : ℕ = 2 ^ b in
    let j : x / C * C + x % C ≡ x = div-add-mod' x C in
    let w : x / C * C % C ≡ 0 = mul-mod_left (x / C) C in
    let i : x / C * C + C ≤ N * C = whole-inside (x / C * C) N b w (omega (arith, j, fits, below)) in
    record { at = x / C * C; mark = x % C; is = sym j; few = rest; some = omega (arith, j, mark_one v); whole = w; inside = omega (arith, i, fits) }

-- what stands in one, in the numbers that the code compares
module _ (v b n x : ℕ) (least : 9 ≤ b) (w : Placed v (2 ^ b) n x) where
  big : 512 ≤ 2 ^ b
  big = pow_mono least

  pub placed-rest : x % 2 ^ b ≤ mark_of v
  placed-rest = let r = (rest_of w.at w.mark (2 ^ b) w.whole (omega (arith, big, w.few, mark_one v))).0 in rw (w.is, r) w.few

  pub placed-cluster : x / 2 ^ b ≡ w.at / 2 ^ b
  placed-cluster = rw w.is (rest_of w.at w.mark (2 ^ b) w.whole (omega (arith, big, w.few, mark_one v))).1

  pub placed-low : w.at % 512 ≡ 0
  placed-low = low_bits w.at b least w.whole

  pub placed-far : (2 ≤ x) × (x < n)
  placed-far = (omega (arith, w.is, w.some, placed-low), omega (arith, w.is, w.inside, w.few, mark_one v, big))

-- ---- the good entries
-- an entry but for bit 63
top_off : (e t p m : ℕ) → e ≡ t * 2 ^ 63 + p + m → p + m < 2 ^ 63 → e % 2 ^ 63 ≡ p + m
top_off e t p m h l = omega arith

module _ (v b n e : ℕ) (least : 9 ≤ b) (small : n ≤ most_length) (word : e < 2 ^ 64) where
  sectors : 2 ^ b ≡ 512 * 2 ^ (b - 9)
  sectors = let d : 9 + (b - 9) ≡ b = omega arith in sym (ap (λ (k : ℕ). 2 ^ k) d) ∙ pow-add 2 9 (b - 9)

  pub good-ways : good_l2 v (2 ^ b) n e ≡ true → (e ≤ mark_of v) ⊎ Placed v (2 ^ b) n (e % 2 ^ 63)
  good-ways h = go ((good-entries v (2 ^ b) n (2 ^ (b - 9)) e sectors (pow_pos (b - 9)) small word).1.0 h)
    where
      go : MaybeMarked v (2 ^ b) n e → (e ≤ mark_of v) ⊎ Placed v (2 ^ b) n (e % 2 ^ 63)
      go (inl (inl z)) = inl (omega (arith, z))
      go (inl (inr w)) =
          inr (record { at = w.at; mark = 0; is = top_off e w.top w.at 0 (omega (arith, w.is)) (omega (arith, w.inside, small)); few = omega arith; some = w.some; whole = w.whole; inside = w.inside })
      go (inr (t, (u, (q, inl z)))) = inl (omega (arith, three_mark v t, q, z))
      go (inr (t, (u, (q, inr w)))) =
          inr (record { at = w.at; mark = 1; is = top_off e w.top w.at 1 (omega (arith, q, w.is)) (omega (arith, w.inside, small)); few = omega (arith, three_mark v t); some = w.some; whole = w.whole; inside = w.inside })

  -- the rest is more than a mark
  pub rest-bad : 2 ≤ e % 2 ^ 63 → mark_of v < e % 2 ^ 63 % 2 ^ b → good_l2 v (2 ^ b) n e ≡ false
  rest-bad some h = go (good_l2 v (2 ^ b) n e) refl
    where
      ways : (e ≤ mark_of v) ⊎ Placed v (2 ^ b) n (e % 2 ^ 63) → ⊥
      ways (inl m) = omega (arith, m, some, mark_one v)
      ways (inr w) = omega (arith, placed-rest v b n (e % 2 ^ 63) least w, h)

      go : (t : Bool) → good_l2 v (2 ^ b) n e ≡ t → t ≡ false
      go true g = absurd (ways (good-ways g))
      go false g = refl

  ways-good : MaybeMarked v (2 ^ b) n e → good_l2 v (2 ^ b) n e ≡ true
  ways-good m = (good-entries v (2 ^ b) n (2 ^ (b - 9)) e sectors (pow_pos (b - 9)) small word).1.1 m

  pub low-good : e ≤ mark_of v → good_l2 v (2 ^ b) n e ≡ true
  low-good h = go (eqb e 0) refl
    where
      go : (z : Bool) → eqb e 0 ≡ z → good_l2 v (2 ^ b) n e ≡ true
      go true z = ways-good (inl (inl (eqb-true e 0 z)))
      go false z =
          let f : e ≡ 0 → ⊥ = eqb-false e 0 z in
          ways-good (inr (mark_three v (omega (arith, f, h)), (0, (omega (arith, f, h, mark_one v), inl refl))))

  module _ (w : Placed v (2 ^ b) n (e % 2 ^ 63)) where
    pub placed-good : good_l2 v (2 ^ b) n e ≡ true
    placed-good = go (eqb w.mark 0) refl
      where
        go : (z : Bool) → eqb w.mark 0 ≡ z → good_l2 v (2 ^ b) n e ≡ true
        go true z =
            ways-good (inl (inr (record { at = w.at; top = e / 2 ^ 63; bit = omega (arith, word); is = omega (arith, w.is, eqb-true w.mark 0 z); some = w.some; whole = w.whole; inside = w.inside })))
        go false z =
            let f : w.mark ≡ 0 → ⊥ = eqb-false w.mark 0 z in
            let q : w.mark ≡ 1 = omega (arith, f, w.few, mark_one v) in
            ways-good (inr (
              mark_three v (omega (arith, q, w.few)),
              (
                e - 1,
                (
                  omega (arith, w.is, w.some),
                  inr (record {
                    at = w.at;
                    top = e / 2 ^ 63;
                    bit = omega (arith, word);
                    is = omega (arith, w.is, q);
                    some = w.some;
                    whole = w.whole;
                    inside = w.inside;
                  }),
                ),
              ),
            ))

    pub placed_at : place e ≡ w.at
    unfolding place
    placed_at = omega (arith, w.is, placed-low v b n (e % 2 ^ 63) least w, w.few, mark_one v, w.inside, small)

  pub low-place : e ≤ mark_of v → place e ≡ 0
  unfolding place
  low-place h = omega (arith, h, mark_one v)
