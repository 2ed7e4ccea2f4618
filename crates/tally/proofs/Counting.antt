-- Laws of counting the short and the leaking clusters.
-- Assumes nothing.
use Rattle.std.specs.Prelude.{if◌then◌else◌}
use Prim.Native.Nat.{ℕ, ◌+◌, ◌-◌, ◌≤◌, ◌<◌}
use mathlib.Core.Path.{◌≡◌, refl, ◌∙◌}
use mathlib.Core.Bool.{Bool, true, false}
use native.Mathlib.Nat.{le_antisymm, add-zero, zero-add, add_assoc}
use native.Mathlib.Omega.{arith}
use borrow.Author.Tests.{ltb-true, ltb-false, lt-ltb, le-ltb, eqb-true, eqb-false}
use lib.Dec.{ltb, eqb}
use Rattle.choice.specs.Pick.{first, count}
use Rattle.choice.proofs.Searches.{first_turn, count_turn, count_turns, count_most}
use Rattle.choice.proofs.Runs.{first_miss}
use Rattle.choice.proofs.Found.{first-false}
use Rattle.tally.specs.Tally.{sign_of, counted, Counting}
use Rattle.std.specs.declared.cmp.Ordering.TheVariants.{Less, Equal, Greater}
use Rattle.tally.specs.declared.Counted.{Counted}

module _ (p q : ℕ → Bool) (N : ℕ) where
  pub counting_first : Counting p q N 0 (record { low = N; over = 0 })
  counting_first =
      let z : N - 0 ≡ N = omega arith in
      record { lowest = rw (le-ltb N N (omega arith), z); leaks = rw (z, zero-add); small = omega arith; few = omega arith }

  pub counting_next : (k x y : ℕ) (c : Counted) → k < N → Counting p q N k c → p k ≡ ltb x y → q k ≡ ltb y x → Counting p q N (k + 1) (counted N k x y c)
  unfolding counted
  counting_next k x y c h d e f =
      let w : (if ltb c.low N then c.low else if ltb x y then k else first p (k + 1) (N - (k + 1))) ≡ first p 0 N = rw (first_turn p k N h, e) at d.lowest in
      let v : c.over + ((if ltb y x then 1 else 0) + count q (k + 1) (N - (k + 1))) ≡ count q 0 N = rw (count_turn q k N h, f) at d.leaks in
      record {
        lowest = low (ltb c.low N) refl (ltb x y) refl w;
        leaks = rw (← add_assoc) at v;
        small = least (ltb c.low N) (ltb x y);
        few = more (ltb y x);
      }
    where
      R : ℕ
      R = first p (k + 1) (N - (k + 1))

      low : (a : Bool) → ltb c.low N ≡ a → (b : Bool) → ltb x y ≡ b → (if a then c.low else if b then k else R) ≡ first p 0 N
          → (if ltb (if a then c.low else if b then k else c.low) N then (if a then c.low else if b then k else c.low) else R) ≡ first p 0 N
      low true ea b eb w = rw ea w
      low false ea true eb w = rw (lt-ltb k N h) w
      low false ea false eb w = rw ea w

      least : (a b : Bool) → (if a then c.low else if b then k else c.low) ≤ N
      least true b = d.small
      least false true = omega arith
      least false false = d.small

      more : (b : Bool) → c.over + (if b then 1 else 0) ≤ k + 1
      more true = omega (arith, d.few)
      more false = omega (arith, d.few)

  -- m clusters at once, of which none is short
  pub counting_part : (k m x : ℕ) (c : Counted) → k + m ≤ N → Counting p q N k c → ((j : ℕ) → k ≤ j → j < k + m → p j ≡ false) → x ≡ count q k m
      → Counting p q N (k + m) (record { low = c.low; over = c.over + x })
  counting_part k m x c h d e f = record {
    lowest = rw (← first_miss p k m N h (omega (arith, first-false p k m e))) d.lowest;
    leaks = omega (arith, f, count_turns q k m N h, d.leaks);
    small = d.small;
    few = omega (arith, f, count_most q k m, d.few);
  }

  pub counting_last : (c : Counted) → Counting p q N N c → (c.low ≡ first p 0 N) × (c.over ≡ count q 0 N)
  counting_last c d =
      let z : N - N ≡ 0 = omega arith in
      (low (ltb c.low N) refl (rw z at d.lowest), rw (z, add-zero) at d.leaks)
    where
      low : (a : Bool) → ltb c.low N ≡ a → (if a then c.low else N) ≡ first p 0 N → c.low ≡ first p 0 N
      low true e w = w
      low false e w = le_antisymm d.small (ltb-false c.low N e) ∙ w

-- what a sign tells
module _ (x y : ℕ) where
  pub short_means : sign_of x y ≡ Less → (ltb x y ≡ true) × (ltb y x ≡ false)
  unfolding sign_of
  short_means h = go (ltb x y) refl (eqb x y) h
    where
      go : (t : Bool) → ltb x y ≡ t → (u : Bool) → (if t then Less else if u then Equal else Greater) ≡ Less → (ltb x y ≡ true) × (ltb y x ≡ false)
      go true e u g = (e, le-ltb y x (omega (arith, ltb-true x y e)))
      go false e true g = absurd (let z : ◌≡◌ {A = ℕ} 0 1 = cc in omega arith)
      go false e false g = absurd (let z : ◌≡◌ {A = ℕ} 0 1 = cc in omega arith)

  pub even_means : sign_of x y ≡ Equal → (ltb x y ≡ false) × (ltb y x ≡ false)
  unfolding sign_of
  even_means h = go (ltb x y) refl (eqb x y) refl h
    where
      go : (t : Bool) → ltb x y ≡ t → (u : Bool) → eqb x y ≡ u → (if t then Less else if u then Equal else Greater) ≡ Equal → (ltb x y ≡ false) × (ltb y x ≡ false)
      go true e u f g = absurd (let z : ◌≡◌ {A = ℕ} 0 1 = cc in omega arith)
      go false e true f g = (e, le-ltb y x (omega (arith, eqb-true x y f)))
      go false e false f g = absurd (let z : ◌≡◌ {A = ℕ} 0 1 = cc in omega arith)

  pub over_means : sign_of x y ≡ Greater → (ltb x y ≡ false) × (ltb y x ≡ true)
  unfolding sign_of
  over_means h = go (ltb x y) refl (eqb x y) refl h
    where
      go : (t : Bool) → ltb x y ≡ t → (u : Bool) → eqb x y ≡ u → (if t then Less else if u then Equal else Greater) ≡ Greater → (ltb x y ≡ false) × (ltb y x ≡ true)
      go true e u f g = absurd (let z : ◌≡◌ {A = ℕ} 0 1 = cc in omega arith)
      go false e true f g = absurd (let z : ◌≡◌ {A = ℕ} 0 1 = cc in omega arith)
      go false e false f g = (e, lt-ltb y x (let n : x ≡ y → ⊥ = eqb-false x y f in omega (arith, ltb-false x y e)))

  -- one cluster more, by its sign
  pub counted-found : (N k : ℕ) (c : Counted) → sign_of x y ≡ Less → c.low < N → c ≡ counted N k x y c
  unfolding counted
  counted-found N k c h l = rw ((short_means h).0, (short_means h).1, lt-ltb c.low N l, add-zero)

  pub counted-short : (N k : ℕ) (c : Counted) → sign_of x y ≡ Less → N ≤ c.low → record { low = k; over = c.over } ≡ counted N k x y c
  unfolding counted
  counted-short N k c h l = rw ((short_means h).0, (short_means h).1, le-ltb c.low N l, add-zero)

  same : (a : Bool) (n : ℕ) → (if a then n else n) ≡ n
  same true n = refl
  same false n = refl

  pub counted_even : (N k : ℕ) (c : Counted) → sign_of x y ≡ Equal → c ≡ counted N k x y c
  unfolding counted
  counted_even N k c h = rw ((even_means h).0, (even_means h).1, same (ltb c.low N) c.low, add-zero)

  pub counted-over : (N k : ℕ) (c : Counted) → sign_of x y ≡ Greater → record { low = c.low; over = c.over + 1 } ≡ counted N k x y c
  unfolding counted
  counted-over N k c h = rw ((over_means h).0, (over_means h).1, same (ltb c.low N) c.low)
