-- Stores by the range that they change: the bytes of a fill, an entry, and what a cut leaves of a fill that an entry follows. Assumes nothing.
use Prim.Native.Nat.{ℕ, zero, suc, ◌+◌, ◌≤◌, ◌<◌}
use native.Mathlib.Omega.{arith}
use mathlib.Core.Path.{◌≡◌, refl, ap, ◌∙◌}
use mathlib.Core.Logic.{◌⊎◌, inl, inr, ◌≢◌}
use mathlib.Core.Bool.{Bool, true, false}
use mathlib.Core.List.{List, [], ◌∷◌, ◌++◌}
use lib.ListN.{length, get_or, set, length-set}
use lib.Seq.{sets, length-sets, get_or-set_other}
use Rattle.endian.specs.Big.{be64}
use Rattle.endian.proofs.Laws.{be64-same}
use Rattle.widths.proofs.Cells.{get_or-sets_out}
use Rattle.cuts.proofs.Call.{small-set, small_sets}
use Rattle.units.specs.Units.{UnitStore, byte, entry, apply, apply_all, fill}
use Rattle.qcow2_spec.specs.Rough.{chosen, roughly}
use Rattle.qcow2_spec.specs.Series.{Bytes}

-- ---- u is t but for some of the n bytes from at on
pub record Only (at n : ℕ) (t u : List ℕ) : Type 0 where
  pub len : length u ≡ length t
  pub small : Bytes u
  pub off : (x : ℕ) → (x < at) ⊎ (at + n ≤ x) → get_or u x 0 ≡ get_or t x 0

pub only_same : (at n : ℕ) (t : List ℕ) → Bytes t → Only at n t t
only_same at n t b = record { len = refl; small = b; off = λ x h. refl }

pub only_sets : (at n : ℕ) (t bs : List ℕ) → length bs ≡ n → Bytes t → Bytes bs → Only at n t (sets t at bs)
only_sets at n t bs e b c =
    record { len = length-sets t at bs; small = small_sets bs t at b c; off = λ x h. get_or-sets_out bs t at 0 x (rw e h) }

-- a number that stands elsewhere
pub only_be64 : {at n : ℕ} {t u : List ℕ} → Only at n t u → (p : ℕ) → (p + 8 ≤ at) ⊎ (at + n ≤ p) → be64 u p ≡ be64 t p
only_be64 {t = t} {u = u} o p (inl h) = be64-same u p t p (λ k l. o.off (p + k) (inl (omega arith)))
only_be64 {t = t} {u = u} o p (inr h) = be64-same u p t p (λ k l. o.off (p + k) (inr (omega arith)))

-- ---- units that are bytes of such a range
pub data Inside (at n : ℕ) : List UnitStore → Type 0 where
  none : Inside at n []
  more : {p v : ℕ} {us : List UnitStore} → at ≤ p → p < at + n → v < 256 → Inside at n us → Inside at n (byte p v ∷ us)

other : (at n p x : ℕ) → at ≤ p → p < at + n → (x < at) ⊎ (at + n ≤ x) → x ≢ p
other at n p x l h (inl d) e = omega arith
other at n p x l h (inr d) e = omega arith

pub inside_only : {at n : ℕ} {us : List UnitStore} → Inside at n us → (t : List ℕ) → Bytes t → Only at n t (apply_all us t)
unfolding apply_all apply
inside_only {at} {n} none t b = only_same at n t b
inside_only {at} {n} (more {p = p} {v = v} l h w k) t b =
    let r = inside_only k (set t p v) (small-set t p v b w) in
    record {
      len = r.len ∙ length-set t p v;
      small = r.small;
      off = λ x d. r.off x d ∙ get_or-set_other t p x v 0 (other at n p x l h d);
    }

-- ---- a fill
pub fill_sets : (bs : List ℕ) (at : ℕ) (t : List ℕ) → apply_all (fill at bs) t ≡ sets t at bs
unfolding apply_all apply fill
fill_sets [] at t = refl
fill_sets (b ∷ bs) at t = fill_sets bs (suc at) (set t at b)

module _ (at n : ℕ) (e v : ℕ) (vs : List UnitStore) where
  -- of a fill that an entry follows, chosen bytes
  chosen-inside : (cs : List Bool) (bs : List ℕ) (p : ℕ) → at ≤ p → p + length bs ≤ at + n → Bytes bs → Inside at n (chosen cs (fill p bs ++ entry e v ∷ vs))
  unfolding fill chosen
  chosen-inside [] bs p l h b = none
  chosen-inside (c ∷ cs) [] p l h b = none
  chosen-inside (true ∷ cs) (x ∷ bs) p l h b = more l (omega arith) (b zero) (chosen-inside cs bs (suc p) (omega arith) (omega arith) (λ i. b (suc i)))
  chosen-inside (false ∷ cs) (x ∷ bs) p l h b = chosen-inside cs bs (suc p) (omega arith) (omega arith) (λ i. b (suc i))

  -- a cut in such a list: some bytes of the fill, or all and the entry and what is stored of the rest
  abbrev pub Cut : (bs : List ℕ) (p a : ℕ) (cs : List Bool) → Type 0
  Cut bs p a cs =
      ((a ≤ length bs) × Inside at n (roughly (fill p bs ++ entry e v ∷ vs) a cs))
      ⊎ ((b : ℕ) × (a ≡ length bs + suc b) × (roughly (fill p bs ++ entry e v ∷ vs) a cs ≡ fill p bs ++ entry e v ∷ roughly vs b cs))

  pub rough_cut : (bs : List ℕ) (p a : ℕ) (cs : List Bool) → at ≤ p → p + length bs ≤ at + n → Bytes bs → Cut bs p a cs
  unfolding roughly fill
  rough_cut bs p zero cs l h b = inl (omega arith, chosen-inside cs bs p l h b)
  rough_cut [] p (suc a) cs l h b = inr (a, omega arith, refl)
  rough_cut (x ∷ bs) p (suc a) cs l h b = go (rough_cut bs (suc p) a cs (omega arith) (omega arith) (λ i. b (suc i)))
    where
      go : Cut bs (suc p) a cs → Cut (x ∷ bs) p (suc a) cs
      go (inl k) = inl (omega arith, more l (omega arith) (b zero) k.1)
      go (inr k) = inr (k.0, omega arith, ap (λ (us : List UnitStore). byte p x ∷ us) k.2)
