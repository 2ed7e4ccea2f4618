-- Why a cut leaves units picked: a drive that stores each sector of an epoch whole or not at all, in any order, leaves a sub-list of the
-- epoch's units, if no unit lies over a sector's end. Assumes nothing.
use Rattle.std.specs.Prelude.{if◌then◌else◌}
use Prim.Native.Nat.{ℕ, zero, suc, ◌+◌, ◌/◌, ◌%◌, ◌^◌, ◌≤◌, ◌<◌}
use native.Mathlib.Nat.{zero-add}
use native.Mathlib.Decide.{ℕ_discrete, dec_lt, dec_le}
use native.Mathlib.Omega.{arith}
use mathlib.Core.Path.{◌≡◌, refl, sym, ap, ◌∙◌, subst}
use mathlib.Core.Logic.{◌⊎◌, inl, inr, ◌≢◌}
use mathlib.Core.Bool.{Bool, true, false}
use mathlib.Core.List.{List, [], ◌∷◌}
use lib.Dec.{leb}
use borrow.Author.Tests.{lt-leb}
use lib.ListN.{length, get_or, set, length-set}
use lib.Seq.{sets, set_out, get_or-set_same, get_or-set_other}
use Rattle.choice.specs.Pick.{each}
use Rattle.choice.proofs.Each.{each_list}
use Rattle.choice.proofs.Tests.{true-not-false, if_no, if_elim}
use Rattle.endian.specs.Big.{bytes64}
use Rattle.endian.proofs.Laws.{length-bytes64}
use Rattle.widths.specs.Width.{span}
use Rattle.widths.proofs.Whole.{each-order}
use Rattle.widths.proofs.Cells.{recell, length_recell, recell_cong, get_or-sets_out, stored_recell}
use Rattle.units.specs.Units.{UnitStore, byte, entry, count, apply, apply_all}
use Rattle.units.proofs.Laws.{length-apply, length-apply_all, apply_all_append}
use Rattle.qcow2_spec.specs.Flush.{picked, loosely, drive, drive_cut}
use Rattle.qcow2_spec.proofs.Flush.{picked_nil, loosely-none, loosely-past}

-- ---- one byte of an image that is stored to
set_same : (l m : List ℕ) (at b x : ℕ) → length l ≡ length m → get_or l x 0 ≡ get_or m x 0 → get_or (set l at b) x 0 ≡ get_or (set m at b) x 0
set_same l m at b x e h = go (ℕ_discrete x at) (dec_lt at (length l))
  where
    go : Dec (x ≡ at) → Dec (at < length l) → get_or (set l at b) x 0 ≡ get_or (set m at b) x 0
    go (no d) r = get_or-set_other l at x b 0 d ∙ h ∙ sym (get_or-set_other m at x b 0 d)
    go (yes q) (yes r) = rw q (get_or-set_same l at b 0 r ∙ sym (get_or-set_same m at b 0 (omega arith)))
    go (yes q) (no r) = rw (set_out l at b (omega arith), set_out m at b (omega arith)) h

sets_same : (bs l m : List ℕ) (at x : ℕ) → length l ≡ length m → get_or l x 0 ≡ get_or m x 0 → get_or (sets l at bs) x 0 ≡ get_or (sets m at bs) x 0
sets_same [] l m at x e h = h
sets_same (b ∷ bs) l m at x e h = sets_same bs (set l at b) (set m at b) (suc at) x (length-set l at b ∙ e ∙ sym (length-set m at b)) (set_same l m at b x e h)

-- ---- units
-- the first byte that a unit stores to, how many they are, and what it stores where the bytes are f: a count keeps its neighbours' bits
unfoldable pub spot : UnitStore → ℕ
spot (byte at v) = at
spot (entry at v) = at
spot (count w at v) = at / 8

unfoldable pub wide : UnitStore → ℕ
wide (byte at v) = 1
wide (entry at v) = 8
wide (count w at v) = span w

unfoldable bytes_of : UnitStore → (ℕ → ℕ) → List ℕ
bytes_of (byte at v) f = v ∷ []
bytes_of (entry at v) f = bytes64 v
bytes_of (count w at v) f = recell w f at v

apply-is : (u : UnitStore) (s : List ℕ) → apply u s ≡ sets s (spot u) (bytes_of u (λ y. get_or s y 0))
unfolding apply spot bytes_of
apply-is (byte at v) s = refl
apply-is (entry at v) s = refl
apply-is (count w at v) s = stored_recell w s at v

length_bytes_of : (u : UnitStore) (f : ℕ → ℕ) → length (bytes_of u f) ≡ wide u
unfolding wide bytes_of
length_bytes_of (byte at v) f = refl
length_bytes_of (entry at v) f = length-bytes64 v
length_bytes_of (count w at v) f = length_recell w f at v

-- the other bytes stay
pub apply_out : (u : UnitStore) (s : List ℕ) (x : ℕ) → (x < spot u) ⊎ (spot u + wide u ≤ x) → get_or (apply u s) x 0 ≡ get_or s x 0
apply_out u s x d =
    let bs = bytes_of u (λ y. get_or s y 0) in
    ap (λ (l : List ℕ). get_or l x 0) (apply-is u s)
    ∙ get_or-sets_out bs s (spot u) 0 x (subst (λ (n : ℕ). (x < spot u) ⊎ (spot u + n ≤ x)) (sym (length_bytes_of u (λ y. get_or s y 0))) d)

-- they depend on the bytes in their place alone
bytes_of_cong : (u : UnitStore) (f g : ℕ → ℕ) → ((x : ℕ) → spot u ≤ x → x < spot u + wide u → f x ≡ g x) → bytes_of u f ≡ bytes_of u g
unfolding spot wide bytes_of
bytes_of_cong (byte at v) f g h = refl
bytes_of_cong (entry at v) f g h = refl
bytes_of_cong (count w at v) f g h = recell_cong w f g at v h

module _ (S : ℕ) where
  -- the unit lies in one sector of S bytes
  abbrev pub InSector : UnitStore → Type 0
  InSector u = (x : ℕ) → spot u ≤ x → x < spot u + wide u → x / S ≡ spot u / S

  pub data AllIn : List UnitStore → Type 0 where
    none : AllIn []
    also : {u : UnitStore} {us : List UnitStore} → InSector u → AllIn us → AllIn (u ∷ us)

  elsewhere : (u : UnitStore) (s : List ℕ) (x : ℕ) → InSector u → x / S ≢ spot u / S → get_or (apply u s) x 0 ≡ get_or s x 0
  elsewhere u s x h d = apply_out u s x (side (dec_lt x (spot u)) (dec_le (spot u + wide u) x))
    where
      side : Dec (x < spot u) → Dec (spot u + wide u ≤ x) → (x < spot u) ⊎ (spot u + wide u ≤ x)
      side (yes a) b = inl a
      side (no a) (yes b) = inr b
      side (no a) (no b) = absurd (d (h x (omega arith) (omega arith)))

  module _ (stored : ℕ → Bool) where
    -- the units of the sectors that are stored
    unfoldable pub flags : List UnitStore → List Bool
    flags [] = []
    flags (u ∷ us) = stored (spot u / S) ∷ flags us

    -- the sectors that are stored have the same bytes in both
    abbrev Alike : (s t : List ℕ) → Type 0
    Alike s t = (x : ℕ) → stored (x / S) ≡ true → get_or s x 0 ≡ get_or t x 0

    -- so it is once both have a unit of such a sector, or the second has one of another
    both_have : (u : UnitStore) (s t : List ℕ) → InSector u → stored (spot u / S) ≡ true → length s ≡ length t → Alike s t → Alike (apply u s) (apply u t)
    both_have u s t i w e h x q =
        rw (apply-is u s, apply-is u t, bytes_of_cong u (λ y. get_or s y 0) (λ y. get_or t y 0) (λ y a b. h y (ap stored (i y a b) ∙ w)))
        (sets_same (bytes_of u (λ y. get_or t y 0)) s t (spot u) x e (h x q))

    one_has : (u : UnitStore) (s t : List ℕ) → InSector u → stored (spot u / S) ≡ false → Alike s t → Alike s (apply u t)
    one_has u s t i w h x q = h x q ∙ sym (elsewhere u t x i (λ f. true-not-false q (ap stored f ∙ w)))

    -- a byte of a sector that is stored, and one of a sector that is not
    byte_new : (us : List UnitStore) (s t : List ℕ) → AllIn us → length s ≡ length t → Alike s t → Alike (apply_all (picked (flags us) us) s) (apply_all us t)
    unfolding flags picked apply_all
    byte_new [] s t none e h = h
    byte_new (u ∷ us) s t (also i k) e h = go (λ a b. byte_new us a b k) (stored (spot u / S)) refl
      where
        go : ((a b : List ℕ) → length a ≡ length b → Alike a b → Alike (apply_all (picked (flags us) us) a) (apply_all us b))
            → (b : Bool) → stored (spot u / S) ≡ b → Alike (apply_all (picked (b ∷ flags us) (u ∷ us)) s) (apply_all us (apply u t))
        go r true w = r (apply u s) (apply u t) (length-apply u s ∙ e ∙ sym (length-apply u t)) (both_have u s t i w e h)
        go r false w = r s (apply u t) (e ∙ sym (length-apply u t)) (one_has u s t i w h)

    byte_old : (us : List UnitStore) (s : List ℕ) (x : ℕ) → AllIn us → stored (x / S) ≡ false → get_or (apply_all (picked (flags us) us) s) x 0 ≡ get_or s x 0
    unfolding flags picked apply_all
    byte_old [] s x none q = refl
    byte_old (u ∷ us) s x (also i k) q = go (λ a. byte_old us a x k q) (stored (spot u / S)) refl
      where
        go : ((a : List ℕ) → get_or (apply_all (picked (flags us) us) a) x 0 ≡ get_or a x 0) → (b : Bool) → stored (spot u / S) ≡ b → get_or (apply_all (picked (b ∷ flags us) (u ∷ us)) s) x 0 ≡ get_or s x 0
        go r true w = r (apply u s) ∙ elsewhere u s x i (λ f. true-not-false w (ap stored (sym f) ∙ q))
        go r false w = r s

-- ---- sectors of 512 bytes: a byte, an entry at a multiple of 8 and a count at a multiple of its width lie in one
pub sector-byte : (at v : ℕ) → InSector 512 (byte at v)
unfolding spot wide
sector-byte at v x h k = let e : x ≡ at = omega arith in ap (λ (y : ℕ). y / 512) e

pub sector-entry : (at v : ℕ) → at % 8 ≡ 0 → InSector 512 (entry at v)
unfolding spot wide
sector-entry at v z x h k = omega arith

pub sector-count : (o : ℕ) → o ≤ 6 → (at v : ℕ) → at % 2 ^ o ≡ 0 → InSector 512 (count (2 ^ o) at v)
unfolding spot wide span
sector-count o l at v =
    each-order (λ y. at % 2 ^ y ≡ 0 → (x : ℕ) → at / 8 ≤ x → x < at / 8 + span (2 ^ y) → x / 512 ≡ at / 8 / 512)
    (λ z x h k. omega arith) (λ z x h k. omega arith) (λ z x h k. omega arith) (λ z x h k. omega arith) (λ z x h k. omega arith) (λ z x h k. omega arith) (λ z x h k. omega arith) o l

-- ---- an image after some units, byte by byte
pub each_applied : (f : ℕ → ℕ) (us : List UnitStore) (s : List ℕ) → ((x : ℕ) → f x ≡ get_or (apply_all us s) x 0) → each f 0 (length s) ≡ apply_all us s
each_applied f us s h = ap (each f 0) (sym (length-apply_all us s)) ∙ each_list f (apply_all us s) 0 (λ x l. ap f (zero-add x) ∙ h x)

-- ---- a drive that stores sectors leaves a sub-list of an epoch
drive-is : (stored : ℕ → Bool) (us : List UnitStore) (s : List ℕ) → AllIn 512 us → drive stored s (apply_all us s) ≡ apply_all (picked (flags 512 stored us) us) s
unfolding drive
drive-is stored us s k = each_applied f (picked (flags 512 stored us) us) s one
  where
    f : ℕ → ℕ
    f x = if stored (x / 512) then get_or (apply_all us s) x 0 else get_or s x 0

    one : (x : ℕ) → f x ≡ get_or (apply_all (picked (flags 512 stored us) us) s) x 0
    one x =
        if_elim (λ (v : ℕ). v ≡ get_or (apply_all (picked (flags 512 stored us) us) s) x 0) (stored (x / 512)) _ _
        (λ q. sym (byte_new 512 stored us s s k refl (λ y r. refl) x q)) (λ q. sym (byte_old 512 stored us s x k q))

unfoldable pub Ins : List (List UnitStore) → Type 0
Ins [] = Unit {0}
Ins (us ∷ es) = AllIn 512 us × Ins es

-- a cut before the first unit of an epoch
loosely-first : (us : List UnitStore) (es : List (List UnitStore)) (cs : List Bool) → 0 < length us → loosely (us ∷ es) 0 cs ≡ picked cs us
unfolding loosely
loosely-first us es cs h = if_no (leb (length us) 0) _ _ (lt-leb (length us) 0 h)

pub drive_loose : (es : List (List UnitStore)) (s : List ℕ) → Ins es → (e : ℕ) (stored : ℕ → Bool)
    → (a : ℕ) × (cs : List Bool) × (drive_cut es e stored s ≡ apply_all (loosely es a cs) s)
unfolding drive_cut Ins apply_all
drive_loose [] s k e stored = (0, [], ap (λ (us : List UnitStore). apply_all us s) (sym (loosely-none [] 0)))
drive_loose ([] ∷ es) s k zero stored = (0, [], drive-is stored [] s k.0 ∙ ap (λ (us : List UnitStore). apply_all us s) (picked_nil (flags 512 stored []) ∙ sym (loosely-none ([] ∷ es) 0)))
drive_loose ((u ∷ us) ∷ es) s k zero stored = (
  0,
  flags 512 stored (u ∷ us),
  drive-is stored (u ∷ us) s k.0 ∙ ap (λ (vs : List UnitStore). apply_all vs s) (sym (loosely-first (u ∷ us) es (flags 512 stored (u ∷ us)) (omega arith))),
)
drive_loose (us ∷ es) s k (suc e) stored =
    let r = drive_loose es (apply_all us s) k.1 e stored in (
      length us + r.0,
      r.1,
      r.2 ∙ sym (ap (λ (vs : List UnitStore). apply_all vs s) (loosely-past us es (length us + r.0) r.0 r.1 refl) ∙ apply_all_append us (loosely es r.0 r.1) s),
    )
