-- A plain entry by the difference y of twice the entry but for bit 63, and 2, which wraps round.
-- Assumes nothing.
use Rattle.std.proofs.Common.{◌≡◌, ℕ, ◌+◌, ◌-◌, ◌*◌, ◌%◌, ◌^◌, ◌<◌, ◌≤◌, Bool, true, false, eqb, refl, arith, lt-ltb, le-leb}
use lib.Pow.{mod-mod-pow}
use Rattle.qcow2_spec.specs.Header.{most_bits, most_length}
use Rattle.qcow2_plain.specs.Plain.{bare, plain}
use Rattle.qcow2_plain.proofs.Plain.{plain-parts}

-- an entry's low bits are not bit 63
pub bare-rest : (b e : ℕ) → b ≤ most_bits → bare e % 2 ^ b ≡ e % 2 ^ b
unfolding bare
bare-rest b e h =
    let d : 63 - b + b ≡ 63 = omega arith in
    rw d at (mod-mod-pow e (63 - b) b)

module _ (b n e y : ℕ) (small : n ≤ most_length) (wraps : (y + 2) % 2 ^ 64 ≡ 2 * bare e) (low : y < 2 ^ 64) where
  pub doubled_past : 2 * (n - 2 ^ b) ≤ y → plain (2 ^ b) n e ≡ false
  doubled_past h = go (plain (2 ^ b) n e) refl
    where
      go : (t : Bool) → plain (2 ^ b) n e ≡ t → t ≡ false
      go false f = refl
      go true f = let p = plain-parts b n e f in absurd (omega (arith, h, p.some, p.inside, wraps, low))

  pub doubled_in : b ≤ most_bits → y < 2 * (n - 2 ^ b) → plain (2 ^ b) n e ≡ eqb (e % 2 ^ b) 0
  unfolding plain
  doubled_in few h =
      let d : y + 2 ≡ 2 * bare e = omega (arith, h, wraps, small) in
      let f : 0 < bare e = omega (arith, d) in
      let g : bare e + 2 ^ b ≤ n = omega (arith, d, h) in
      rw (lt-ltb 0 (bare e) f, le-leb (bare e + 2 ^ b) n g, bare-rest b e few)
