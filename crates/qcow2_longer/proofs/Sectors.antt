-- A store that flushes after each fill and after each other unit: what a drive holds that stores sectors in any order between two flushes is what a rough
-- cut leaves. Assumes nothing.
use Prim.Native.Nat.{ℕ, zero, suc, ◌+◌, ◌-◌, ◌*◌, ◌/◌, ◌%◌, ◌^◌, ◌<◌}
use native.Mathlib.Nat.{div-add-mod'}
use native.Mathlib.Decide.{dec_lt}
use native.Mathlib.Omega.{arith}
use mathlib.Core.Path.{◌≡◌, refl, sym, ap, ◌∙◌}
use mathlib.Core.Bool.{Bool, true, false}
use mathlib.Core.List.{List, [], ◌∷◌, ◌++◌}
use lib.Dec.{leb, eqb}
use lib.ListN.{length, take, drop}
use borrow.Author.Tests.{lt-leb}
use Rattle.choice.specs.Pick.{unless}
use Rattle.choice.proofs.Tests.{if_no, if_elim}
use Rattle.endian.specs.Big.{be32}
use Rattle.units.specs.Units.{UnitStore, byte, entry, count, fill, apply_all}
use Rattle.units.specs.Plan.{refused, units, plan_units}
use Rattle.qcow2_spec.specs.Header.{autoclear_at, autoclear, cluster_size, table_at, header_number}
use Rattle.qcow2_spec.specs.Store.{clear_units, clearing}
use Rattle.qcow2_spec.specs.Rough.{chosen, roughly, after_rough}
use Rattle.qcow2_spec.specs.Flush.{picked, loosely}
use Rattle.qcow2_spec.proofs.Facts.{headed}
use Rattle.qcow2_spec.proofs.Flush.{picked_nil, loosely-past}
use Rattle.qcow2_spec.proofs.Sectors.{AllIn, none, also, Ins, InSector, sector-byte, sector-entry, drive_loose}
use Rattle.qcow2_longer.proofs.Another.{size_is}
use Rattle.qcow2_longer.specs.Extend.{new_blocks, new_place, to_make, new_block, make_block, make_blocks, extend_number, longer_number, extend_plan}
use Rattle.qcow2_longer.specs.Longer.{rest, ahead, by_fills, SectorsRough}

-- ---- rough cuts of lists
-- what some of a list's epochs hold is a rough cut of it
abbrev Rough : List UnitStore → List UnitStore → Type 0
Rough us vs = (a : ℕ) × (cs : List Bool) × (vs ≡ roughly us a cs)

rough_none : (us : List UnitStore) → Rough us []
unfolding roughly chosen
rough_none us = (0, [], refl)

-- one unit more in front, whole
rough_more : (u : UnitStore) (us vs : List UnitStore) → Rough us vs → Rough (u ∷ us) (u ∷ vs)
unfolding roughly
rough_more u us vs r = (suc r.0, r.1, ap (λ (ws : List UnitStore). u ∷ ws) r.2)

loosely_nil : (a : ℕ) (cs : List Bool) → loosely [] a cs ≡ []
unfolding loosely
loosely_nil a cs = refl

-- a cut inside the first epoch
loosely-inside : (us : List UnitStore) (es : List (List UnitStore)) (a : ℕ) (cs : List Bool) → a < length us → loosely (us ∷ es) a cs ≡ take a us ++ picked cs (drop a us)
unfolding loosely
loosely-inside us es a cs h = if_no (leb (length us) a) _ _ (lt-leb (length us) a h)

-- ---- the bytes that a list starts with
-- they are its first epoch, if there are any
unfoldable Leads : List UnitStore → List (List UnitStore) → Type 0
Leads us [] = (cs : List Bool) → chosen cs us ≡ []
Leads us ([] ∷ es) = (cs : List Bool) → chosen cs us ≡ []
Leads us ((byte b w ∷ vs) ∷ es) = (cs : List Bool) → picked cs (byte b w ∷ vs) ≡ chosen cs us
Leads us ((entry b w ∷ vs) ∷ es) = (cs : List Bool) → chosen cs us ≡ []
Leads us ((count x b w ∷ vs) ∷ es) = (cs : List Bool) → chosen cs us ≡ []

-- a byte in front
module _ (a v : ℕ) (us : List UnitStore) where
  alone : ((cs : List Bool) → chosen cs us ≡ []) → (cs : List Bool) → picked cs (byte a v ∷ []) ≡ chosen cs (byte a v ∷ us)
  unfolding picked chosen
  alone h [] = refl
  alone h (true ∷ cs) = ap (λ (ws : List UnitStore). byte a v ∷ ws) (picked_nil cs ∙ sym (h cs))
  alone h (false ∷ cs) = picked_nil cs ∙ sym (h cs)

  along : (vs : List UnitStore) → ((cs : List Bool) → picked cs vs ≡ chosen cs us) → (cs : List Bool) → picked cs (byte a v ∷ vs) ≡ chosen cs (byte a v ∷ us)
  unfolding picked chosen
  along vs h [] = refl
  along vs h (true ∷ cs) = ap (λ (ws : List UnitStore). byte a v ∷ ws) (h cs)
  along vs h (false ∷ cs) = h cs

  leads_byte : (es : List (List UnitStore)) → Leads us es → Leads (byte a v ∷ us) (ahead (byte a v) es)
  unfolding Leads ahead
  leads_byte [] h = alone h
  leads_byte ([] ∷ es) h = alone h
  leads_byte ((byte b w ∷ vs) ∷ es) h = along (byte b w ∷ vs) h
  leads_byte ((entry b w ∷ vs) ∷ es) h = alone h
  leads_byte ((count x b w ∷ vs) ∷ es) h = alone h

leads : (us : List UnitStore) → Leads us (by_fills us)
unfolding Leads by_fills ahead chosen
leads [] = nil
  where
    nil : (cs : List Bool) → chosen cs [] ≡ []
    nil [] = refl
    nil (c ∷ cs) = refl
leads (byte a v ∷ us) = leads_byte a v us (by_fills us) (leads us)
leads (entry a v ∷ us) = stop
  where
    stop : (cs : List Bool) → chosen cs (entry a v ∷ us) ≡ []
    stop [] = refl
    stop (c ∷ cs) = refl
leads (count w a v ∷ us) = stop
  where
    stop : (cs : List Bool) → chosen cs (count w a v ∷ us) ≡ []
    stop [] = refl
    stop (c ∷ cs) = refl

-- ---- epochs by fills
-- a byte in front that is stored
byte-whole : (b w : ℕ) (es : List (List UnitStore)) (a : ℕ) (cs : List Bool) → loosely (ahead (byte b w) es) (suc a) cs ≡ byte b w ∷ loosely es a cs
unfolding ahead
byte-whole b w [] a cs = loosely-past (byte b w ∷ []) [] (suc a) a cs (omega arith)
byte-whole b w ([] ∷ es) a cs = loosely-past (byte b w ∷ []) ([] ∷ es) (suc a) a cs (omega arith)
byte-whole b w ((entry c x ∷ vs) ∷ es) a cs = loosely-past (byte b w ∷ []) ((entry c x ∷ vs) ∷ es) (suc a) a cs (omega arith)
byte-whole b w ((count y c x ∷ vs) ∷ es) a cs = loosely-past (byte b w ∷ []) ((count y c x ∷ vs) ∷ es) (suc a) a cs (omega arith)
byte-whole b w ((byte c x ∷ vs) ∷ es) a cs = go (dec_lt a (length (byte c x ∷ vs)))
  where
    E : List UnitStore
    E = byte c x ∷ vs

    go : Dec (a < length E) → loosely ((byte b w ∷ E) ∷ es) (suc a) cs ≡ byte b w ∷ loosely (E ∷ es) a cs
    go (yes l) = loosely-inside (byte b w ∷ E) es (suc a) cs (omega arith) ∙ ap (λ (ws : List UnitStore). byte b w ∷ ws) (sym (loosely-inside E es a cs l))
    go (no l) =
        loosely-past (byte b w ∷ E) es (suc a) (a - length E) cs (omega arith)
        ∙ ap (λ (ws : List UnitStore). byte b w ∷ ws) (sym (loosely-past E es a (a - length E) cs (omega arith)))

-- or of which the first epoch's bytes are chosen
byte_cut : (b w : ℕ) (us : List UnitStore) (es : List (List UnitStore)) (cs : List Bool) → Leads (byte b w ∷ us) (ahead (byte b w) es) → loosely (ahead (byte b w) es) 0 cs ≡ chosen cs (byte b w ∷ us)
unfolding ahead Leads
byte_cut b w us [] cs h = loosely-inside (byte b w ∷ []) [] 0 cs (omega arith) ∙ h cs
byte_cut b w us ([] ∷ es) cs h = loosely-inside (byte b w ∷ []) ([] ∷ es) 0 cs (omega arith) ∙ h cs
byte_cut b w us ((byte c x ∷ vs) ∷ es) cs h = loosely-inside (byte b w ∷ byte c x ∷ vs) es 0 cs (omega arith) ∙ h cs
byte_cut b w us ((entry c x ∷ vs) ∷ es) cs h = loosely-inside (byte b w ∷ []) ((entry c x ∷ vs) ∷ es) 0 cs (omega arith) ∙ h cs
byte_cut b w us ((count y c x ∷ vs) ∷ es) cs h = loosely-inside (byte b w ∷ []) ((count y c x ∷ vs) ∷ es) 0 cs (omega arith) ∙ h cs

-- a unit that is an epoch of its own
single_cut : (u : UnitStore) (us : List UnitStore) (es : List (List UnitStore)) (cs : List Bool) → Rough (u ∷ us) (loosely ((u ∷ []) ∷ es) 0 cs)
unfolding picked
single_cut u us es cs = rw (loosely-inside (u ∷ []) es 0 cs (omega arith)) (go cs)
  where
    go : (cs : List Bool) → Rough (u ∷ us) (picked cs (u ∷ []))
    go [] = rough_none (u ∷ us)
    go (false ∷ cs) = rw (picked_nil cs) (rough_none (u ∷ us))
    go (true ∷ cs) = rw (picked_nil cs) (rough_more u us [] (rough_none us))

loose_rough : (us : List UnitStore) (a : ℕ) (cs : List Bool) → Rough us (loosely (by_fills us) a cs)
unfolding by_fills ahead roughly
loose_rough [] a cs = rw (loosely_nil a cs) (rough_none [])
loose_rough (byte b w ∷ us) zero cs = (0, cs, byte_cut b w us (by_fills us) cs (leads (byte b w ∷ us)))
loose_rough (byte b w ∷ us) (suc a) cs = rw (byte-whole b w (by_fills us) a cs) (rough_more (byte b w) us _ (loose_rough us a cs))
loose_rough (entry b w ∷ us) zero cs = single_cut (entry b w) us (by_fills us) cs
loose_rough (entry b w ∷ us) (suc a) cs = rw (loosely-past (entry b w ∷ []) (by_fills us) (suc a) a cs (omega arith)) (rough_more (entry b w) us _ (loose_rough us a cs))
loose_rough (count x b w ∷ us) zero cs = single_cut (count x b w) us (by_fills us) cs
loose_rough (count x b w ∷ us) (suc a) cs = rw (loosely-past (count x b w ∷ []) (by_fills us) (suc a) a cs (omega arith)) (rough_more (count x b w) us _ (loose_rough us a cs))

-- ---- every unit of the list lies in a sector
ahead_in : (u : UnitStore) (es : List (List UnitStore)) → InSector 512 u → Ins es → Ins (ahead u es)
unfolding ahead Ins
ahead_in (byte a v) [] h k = (also h none, k)
ahead_in (byte a v) ([] ∷ es) h k = (also h none, k)
ahead_in (byte a v) ((byte b w ∷ vs) ∷ es) h k = (also h k.0, k.1)
ahead_in (byte a v) ((entry b w ∷ vs) ∷ es) h k = (also h none, k)
ahead_in (byte a v) ((count x b w ∷ vs) ∷ es) h k = (also h none, k)
ahead_in (entry a v) es h k = (also h none, k)
ahead_in (count w a v) es h k = (also h none, k)

fills_in : {us : List UnitStore} → AllIn 512 us → Ins (by_fills us)
unfolding by_fills Ins
fills_in none = tt
fills_in (also {u} {us} h k) = ahead_in u (by_fills us) h (fills_in k)

in_append : {us vs : List UnitStore} → AllIn 512 us → AllIn 512 vs → AllIn 512 (us ++ vs)
in_append none k = k
in_append (also h j) k = also h (in_append j k)

fill_in : (at : ℕ) (bs : List ℕ) → AllIn 512 (fill at bs)
unfolding fill
fill_in at [] = none
fill_in at (b ∷ bs) = also (sector-byte at b) (fill_in (suc at) bs)

module _ (s : List ℕ) (even : table_at s % 8 ≡ 0) where
  block_in : (i : ℕ) → AllIn 512 (make_block s i)
  unfolding make_block
  block_in i =
      if_elim (AllIn 512) (to_make s i) _ _
      (λ e. in_append (fill_in (new_place s i) (new_block s)) (also (sector-entry (table_at s + 8 * i) (new_place s i) (omega (arith, even))) none)) (λ e. none)

  blocks_in : (is : List ℕ) → AllIn 512 (make_blocks s is)
  unfolding make_blocks
  blocks_in [] = none
  blocks_in (i ∷ is) = in_append (block_in i) (blocks_in is)

  clear_in : AllIn 512 (clear_units s)
  unfolding clear_units
  clear_in = if_elim (AllIn 512) (eqb (autoclear s) 0) _ _ (λ e. none) (λ e. also (sector-entry autoclear_at 0 refl) none)

  clearing_in : (us : List UnitStore) → AllIn 512 us → AllIn 512 (plan_units (clearing s (units us)))
  unfolding clearing plan_units
  clearing_in [] k = none
  clearing_in (u ∷ us) k = in_append clear_in k

table_even : (s : List ℕ) → header_number s ≡ 0 → table_at s % 8 ≡ 0
table_even s e =
    let h = headed s e in
    let q = table_at s / cluster_size s in
    omega (arith, div-add-mod' (table_at s) (cluster_size s), h.table-whole, ap (λ (x : ℕ). q * x) (size_is s h), times q (2 ^ (be32 s 20 - 9)))
  where
    times : (x y : ℕ) → x * (512 * y) ≡ 8 * (64 * (x * y))
    times x y = omega arith

rest_in : (s : List ℕ) (old : ℕ) → AllIn 512 (rest old s)
unfolding rest extend_plan extend_number plan_units
rest_in s old = go (header_number s) refl (longer_number s old) _
  where
    go : (j : ℕ) → header_number s ≡ j → (k l : ℕ) → AllIn 512 (plan_units (unless (unless j (λ n. n) (unless k (λ n. n) l)) refused (clearing s (units (make_blocks s (new_blocks s old))))))
    go (suc j) e k l = none
    go zero e (suc k) l = none
    go zero e zero (suc l) = none
    go zero e zero zero = clearing_in s (table_even s e) (make_blocks s (new_blocks s old)) (blocks_in s (table_even s e) (new_blocks s old))

pub sectors_rough : SectorsRough
unfolding after_rough rest
sectors_rough s old e stored =
    let d = drive_loose (by_fills (rest old s)) s (fills_in (rest_in s old)) e stored in
    let r = loose_rough (rest old s) d.0 d.1 in
    (r.0, r.1, d.2 ∙ ap (λ (us : List UnitStore). apply_all us s) r.2)
