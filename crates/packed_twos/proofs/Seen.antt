-- Laws of a pass that stores the figures' low bytes and puts the bits of all figures together. Assumes nothing.
use Prim.Native.Nat.{ℕ, ◌+◌, ◌*◌, ◌/◌, ◌%◌, ◌≤◌, ◌<◌}
use native.Mathlib.Omega.{arith}
use mathlib.Core.Path.{◌≡◌, refl, ◌∙◌}
use mathlib.Core.Bool.{Bool, true, false}
use mathlib.Core.List.{List}
use lib.Bits.{bit_or}
use lib.Dec.{ltb}
use lib.ListN.{length, get_or, set, take, get_or-eq_default}
use lib.Seq.{get_or-set_same, get_or-set_other, get_or-take, length-take-le}
use borrow.Author.Tests.{ltb-true, ltb-false}
use Rattle.endian.specs.Big.{be16}
use Rattle.power.proofs.Together.{or_high, or_low}
use Rattle.widths.proofs.Cells.{Small}
use Rattle.packed.specs.Packed.{Single}
use Rattle.packed_twos.specs.Twos.{twos}
use Rattle.packed_twos.proofs.Laws.{length-twos, get_or-twos, twos_are}
use Rattle.packed.specs.Lanes.{lanes, bytes_at}
use Rattle.packed.proofs.Turned.{turned2}

-- two bytes as they are loaded, and turned back
abbrev pub loaded : List ℕ → ℕ → ℕ
loaded l j = lanes 2 (bytes_at l (2 * j))

pub loaded_back : (l : List ℕ) → Small l → (j : ℕ) → be16 l (2 * j) ≡ loaded l j / 256 + loaded l j % 256 * 256
unfolding be16
loaded_back l b j = rw (← turned2 l (2 * j)) (omega (arith, b (2 * j), b (2 * j + 1)))

-- what holds below j and at j holds below j + 1
up_to : (P : ℕ → Type 0) (j : ℕ) → ((i : ℕ) → i < j → P i) → P j → (i : ℕ) → i < j + 1 → P i
up_to P j h p i l = go (ltb i j) refl
  where
    go : (t : Bool) → ltb i j ≡ t → P i
    go true e = h i (ltb-true i j e)
    go false e = let d : j ≡ i = (let k : j ≤ i = ltb-false i j e in omega arith) in rw d at p

-- the bits of the first j figures are among those seen, byte by byte
abbrev pub Among : List ℕ → (seen j : ℕ) → Type 0
Among F seen j = (i : ℕ) → i < j → (loaded F i % 256 ≤ seen % 256) × (loaded F i / 256 ≤ seen / 256)

pub among_next : (F : List ℕ) (seen j t : ℕ) → t ≡ loaded F j → Among F seen j → Among F (bit_or seen t) (j + 1)
among_next F seen j t e s =
    up_to (λ i. (loaded F i % 256 ≤ bit_or seen t % 256) × (loaded F i / 256 ≤ bit_or seen t / 256)) j
    (λ i l. (omega (arith, (s i l).0, (or_high seen t).0), omega (arith, (s i l).1, (or_low seen t).0)))
    (rw (← e) (or_high seen t).1, rw (← e) (or_low seen t).1)

-- and their low bytes are stored
pub record Seen (F b : List ℕ) (seen j : ℕ) : Type 0 where
  pub among : Among F seen j
  pub stored : (i : ℕ) → i < j → get_or b i 0 ≡ loaded F i / 256

pub seen_none : (F b : List ℕ) → Seen F b 0 0
seen_none F b = record { among = λ i h. absurd (omega arith); stored = λ i h. absurd (omega arith) }

pub seen_next : (F b : List ℕ) (seen j t : ℕ) → j < length b → t ≡ loaded F j → Seen F b seen j → Seen F (set b j (t / 256)) (bit_or seen t) (j + 1)
seen_next F b seen j t h e s = record {
  among = among_next F seen j t e s.among;
  stored = up_to (λ i. get_or (set b j (t / 256)) i 0 ≡ loaded F i / 256) j
      (λ i l. get_or-set_other b j i (t / 256) 0 (λ z. omega arith) ∙ s.stored i l)
      (get_or-set_same b j (t / 256) 0 h ∙ rw e);
}

-- a figure, where nothing is seen above 1
pub figure_one : (F : List ℕ) → Small F → (seen j : ℕ) → Among F seen j → seen % 256 ≡ 0 → seen / 256 ≤ 1 → (i : ℕ) → i < j → (be16 F (2 * i) ≡ loaded F i / 256) × (be16 F (2 * i) ≤ 1)
figure_one F small seen j s z o i l =
    let e = loaded_back F small i in
    let h = (s i l).0 in
    let k = (s i l).1 in
    (omega (arith, e, h, z), omega (arith, e, h, k, z, o))

module _ (F b : List ℕ) (small : Small F) (seen m : ℕ) (s : Seen F b seen m) (z : seen % 256 ≡ 0) (o : seen / 256 ≤ 1) where
  figure : (i : ℕ) → i < m → (get_or b i 0 ≡ be16 F (2 * i)) × (be16 F (2 * i) ≤ 1)
  figure i l = let f = figure_one F small seen m s.among z o i l in (omega (arith, f.0, s.stored i l), f.1)

  single_twos : Single (twos F m)
  single_twos i = go (ltb i m) refl
    where
      go : (t : Bool) → ltb i m ≡ t → get_or (twos F m) i 0 ≤ 1
      go true e = let l : i < m = ltb-true i m e in rw (get_or-twos F m i l) (figure i l).1
      go false e = rw (get_or-eq_default (twos F m) 0 {n = i} (rw (length-twos F m) (ltb-false i m e))) (omega arith)

  pub seen_narrow : m ≤ length b → (take m b ≡ twos F m) × Single (twos F m)
  seen_narrow h = (twos_are F (take m b) m (length-take-le m b h) (λ i l. get_or-take m b i 0 l ∙ (figure i l).0), single_twos)
