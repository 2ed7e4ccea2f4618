-- Demand 3, for a drive that keeps no order between two flushes, and so for rough cuts and smooth ones: the theorem about every series of calls on every image that is sound or leaking. Assumes nothing.
use Rattle.std.specs.Prelude.{if◌then◌else◌, Err, Ok as ok, Result as Outcome}
use Prim.Native.Nat.{ℕ, zero, suc, ◌+◌, ◌-◌, ◌*◌, ◌/◌, ◌%◌, ◌≤◌, ◌<◌}
use native.Mathlib.Nat.{le_refl, mod-lt}
use native.Mathlib.Decide.{dec_lt}
use native.Mathlib.Omega.{arith}
use mathlib.Core.Path.{◌≡◌, refl, sym, ap, ap₂, ◌∙◌, subst}
use mathlib.Core.Logic.{◌⊎◌, inl, inr}
use mathlib.Core.Bool.{Bool, true, false, ◌&&◌, ◌||◌}
use mathlib.Core.List.{List, [], ◌∷◌}
use lib.Dec.{leb, ltb, eqb}
use lib.ListN.{length, get_or}
use borrow.Author.Tests.{leb-true, le-ltb, le-leb, lt-leb}
use Rattle.cuts.proofs.Cell.{mem}
use Rattle.cuts.proofs.Meta.{Geo, Codec, cnt, refs_of, Sound}
use Rattle.cuts.proofs.Call.{Ok}
use Rattle.choice.specs.Pick.{unless, each}
use Rattle.qcow2_spec.specs.Header.{cluster_size, clusters, disk_size, per_table, roots, judge}
use Rattle.qcow2_spec.specs.Counts.{count_of}
use Rattle.qcow2_spec.specs.Guest.{backing_byte, guest_byte, reach, outside, read_into}
use Rattle.units.specs.Plan.{Plan, refused, units, plan_units, ended, outcome}
use Rattle.units.specs.Units.{UnitStore, apply_all}
use Rattle.tally.specs.Tally.{occurrences}
use Rattle.qcow2_spec.specs.References.{references}
use Rattle.qcow2_spec.specs.Check.{verdict, checked as checked_with, check}
use Rattle.units.specs.declared.Ended.{Ended}
use Rattle.units.specs.declared.Ended.TheVariants.{Finished, Stopped}
use Rattle.qcow2_spec.specs.declared.Verdict.TheVariants.{Refused as NotChecked}
use Rattle.units.specs.Plan.{stores_count}
use Rattle.qcow2_spec.specs.Disk.{Request, write, discard, repair, plan_of, finished, SameDisk, Fed}
use Rattle.qcow2_spec.specs.Flush.{epochs, loosely, after_loose}
use Rattle.qcow2_spec.specs.Series.{Bytes, Healthy, Agrees, Mended, MendedBy, Call, BytesOf, AllBytes, left, left_rough, left_loose, ends, Step, ClearedFirst, Holds, RoughHolds, LooseHolds, Demand3, RoughDemand3, LooseDemand3, SectorsLoose}
use Rattle.choice.proofs.Tests.{if_no, if_elim, false-or, two_ways}
use Rattle.qcow2_spec.proofs.Facts.{Facts, judge_facts, c_pos, e_pos, n_whole, root-few, root-count}
use Rattle.qcow2_spec.proofs.Geo.{nr, geo, code}
use Rattle.qcow2_spec.proofs.Kept.{cnt_own, same-backed, same-judge, same_geo, same_code, same_disk, same_size, same-per_table, same-clusters, same-roots, same-root_size}
use Rattle.qcow2_spec.proofs.Verdicts.{refs_own, healthy-sound, sound-healthy, exact_sound}
use Rattle.qcow2_spec.proofs.Ways.{rd, guest_rd, in_root, inside, accepted, read_whole, read-outside}
use Rattle.qcow2_spec.proofs.Rough.{smooth_cut}
use Rattle.qcow2_spec.proofs.Flush.{held_cut, held_end, epochs-whole, loosely-all, rough_loose}
use Rattle.qcow2_spec.proofs.Seen.{fed-same, Shots, Exact}
use Rattle.qcow2_spec.proofs.Plans.{Mid, End, Sure, untouched, sure_in, plan_sure}
use Rattle.qcow2_spec.proofs.Sectors.{drive_loose}

-- an image of the series: accepted, sound or leaking, of the first image's shape, and with its snapshots
pub record Good (backing start s : List ℕ) : Type 0 where
  pub judged : judge backing s ≡ 0
  pub bytes : Bytes s
  pub sound : Sound (geo s) (code s) (mem (cluster_size s) s)
  pub one_size : disk_size s ≡ disk_size start
  pub one-C : cluster_size s ≡ cluster_size start
  pub one-N : clusters s ≡ clusters start
  pub one-length : length s ≡ length start
  pub one-roots : roots s ≡ roots start
  pub one-reach : (t : ℕ) → t < roots start → reach s t ≡ reach start t
  pub shots : (k y : ℕ) → suc k < roots start → y < reach start (suc k) → guest_byte backing s (suc k) y ≡ guest_byte backing start (suc k) y

pub each_same : (f g : ℕ → ℕ) (k x : ℕ) → ((y : ℕ) → x ≤ y → y < x + k → f y ≡ g y) → each f x k ≡ each g x k
each_same f g zero x h = refl
each_same f g (suc k) x h = ap₂ (λ (y : ℕ) (l : List ℕ). y ∷ l) (h x (le_refl x) (omega arith)) (each_same f g k (suc x) (λ y a b. h y (omega arith) (omega arith)))

pub reach-0 : (s : List ℕ) → reach s 0 ≡ disk_size s
unfolding reach
reach-0 s = refl

pub test_same : (s t : List ℕ) (u x len : ℕ) → roots s ≡ roots t → reach s u ≡ reach t u → outside s u x len ≡ outside t u x len
unfolding outside
test_same s t u x len e r = rw (e, r) refl

-- there is no such L1 table
pub no_root : (s : List ℕ) (t x len : ℕ) → roots s ≤ t → outside s t x len ≡ true
unfolding outside
no_root s t x len h = rw (le-leb (roots s) t h) refl

module _ (backing start s : List ℕ) (k : Good backing start s) where
  pub fs : Facts s
  fs = judge_facts backing s k.judged

  pub own : Ok (geo s) (code s) (mem (cluster_size s) s) s
  own = record { len = sym (n_whole s fs); small = k.bytes; sound = k.sound; head = λ x l b. refl; table = λ i l. refl; directory = λ q x l h. refl }

  checked : (n : ℕ) → 2 * clusters start ≤ n → check backing s n ≡ verdict s
  unfolding check checked_with
  checked n l = rw k.judged (if_no (ltb n (2 * clusters s)) (NotChecked 15) (verdict s) (le-ltb n (2 * clusters s) (omega (arith, k.one-N))))

  within : (t x len : ℕ) → t < roots start → x + len ≤ reach start t → outside s t x len ≡ false
  unfolding outside
  within t x len h l =
      let r : reach s t ≡ reach start t = k.one-reach t h in
      false-or (leb (roots s) t || ltb (reach s t) x) (ltb (reach s t - x) len)
      (false-or (leb (roots s) t) (ltb (reach s t) x) (lt-leb (roots s) t (omega (arith, k.one-roots))) (le-ltb (reach s t) x (omega arith)))
      (le-ltb (reach s t - x) len (omega arith))

  first-root : 0 < roots start
  first-root = omega (arith, k.one-roots, root-count s fs)

  -- a read of a snapshot gives what it gave on the first image
  kept : Good backing start start → (n x : ℕ) (out : List ℕ) → read_into backing s (suc n) x out ≡ read_into backing start (suc n) x out
  kept b n x out = go (dec_lt (suc n) (roots start)) (two_ways (outside start (suc n) x (length out)))
    where
      f0 : Facts start
      f0 = judge_facts backing start b.judged

      same_test : suc n < roots start → outside s (suc n) x (length out) ≡ outside start (suc n) x (length out)
      same_test h = test_same s start (suc n) x (length out) k.one-roots (k.one-reach (suc n) h)

      go : Dec (suc n < roots start) → (outside start (suc n) x (length out) ≡ true) ⊎ (outside start (suc n) x (length out) ≡ false) → read_into backing s (suc n) x out ≡ read_into backing start (suc n) x out
      go (no h) w =
          read-outside s fs backing k.judged (suc n) x out (no_root s (suc n) x (length out) (omega (arith, k.one-roots)))
          ∙ sym (read-outside start f0 backing b.judged (suc n) x out (no_root start (suc n) x (length out) (omega arith)))
      go (yes h) (inl w) =
          read-outside s fs backing k.judged (suc n) x out (same_test h ∙ w) ∙ sym (read-outside start f0 backing b.judged (suc n) x out w)
      go (yes h) (inr w) =
          read_whole s fs backing k.judged k.sound (suc n) x out (same_test h ∙ w)
          ∙ each_same (guest_byte backing s (suc n)) (guest_byte backing start (suc n)) (length out) x
          (λ y l m. k.shots n y h (omega (arith, (inside start f0 (suc n) x (length out) w).1)))
          ∙ sym (read_whole start f0 backing b.judged b.sound (suc n) x out w)

  pub agrees : Good backing start start → Agrees backing start s (guest_byte backing s 0)
  agrees b =
      record {
        accepted = λ t x len h l. accepted s fs backing k.judged k.sound t x len (within t x len h l);
        reads = λ x out l. read_whole s fs backing k.judged k.sound 0 x out (within 0 x (length out) first-root (rw (reach-0 start) l));
        kept = kept b;
        checks = λ n l. rw (checked n l) (sound-healthy s fs k.sound);
        same_size = k.one_size;
        same-clusters = k.one-N;
        same_length = k.one-length;
      }

  pub mended : ((c : ℕ) → c < clusters s → count_of s c ≡ occurrences c (references s)) → Mended backing start s
  mended h =
      record {
        sound = λ n l. checked n l ∙ exact_sound s fs k.sound h;
        free = λ c l. let e : count_of s c ≡ occurrences c (references s) = h c (omega (arith, k.one-N)) in ((λ z. sym e ∙ z), (λ z. e ∙ z));
      }

  -- what a kept image is by its own header
  module _ (t : List ℕ) (q : Ok (geo s) (code s) (mem (cluster_size s) s) t) where
    pub moved : (P : Geo → Codec → Type 0) → P (geo s) (code s) → P (geo t) (code t)
    moved P p = subst (λ (g : Geo). P g (code t)) (sym (same_geo s fs t q)) (subst (λ (K : Codec). P (geo s) K) (sym (same_code s fs t q)) p)

    pub next-sound : Sound (geo t) (code t) (mem (cluster_size t) t)
    next-sound = moved (λ (g : Geo) (K : Codec). Sound g K (mem g.C t)) q.sound

    pub next_facts : Facts t
    next_facts = judge_facts backing t (same-judge s fs t q backing ∙ k.judged)

    same-reach : (u : ℕ) → u < roots s → reach t u ≡ reach s u
    unfolding reach
    same-reach zero l = same_disk s fs t q
    same-reach (suc n) l = rw (same-root_size s fs t q (suc n) l, same-per_table s fs t q, same_size s fs t q) refl

    same_backing : (y : ℕ) → backing_byte backing t y ≡ backing_byte backing s y
    unfolding backing_byte
    same_backing y = rw (same-backed s fs t q) refl

    next-byte : (u : ℕ) → u < roots s → (y : ℕ) → y < reach s u → guest_byte backing t u y ≡ rd (geo s) (code s) (backing_byte backing s) t u y
    next-byte u h y l =
        guest_rd t next_facts backing next-sound u (rw (same-roots s fs t q) h) y (rw (same-reach u h) l)
        ∙ ap₂ (λ (g : Geo) (K : Codec). rd g K (backing_byte backing t) t u y) (same_geo s fs t q) (same_code s fs t q)
        ∙ ap (λ (v : ℕ). rd (geo s) (code s) (λ w. v) t u y) (same_backing y)

    pub next-good : Shots backing s fs t → Good backing start t
    next-good sh =
        record {
          judged = same-judge s fs t q backing ∙ k.judged;
          bytes = q.small;
          sound = next-sound;
          one_size = same_disk s fs t q ∙ k.one_size;
          one-C = same_size s fs t q ∙ k.one-C;
          one-N = same-clusters s fs t q ∙ k.one-N;
          one-length = q.len ∙ n_whole s fs ∙ k.one-length;
          one-roots = same-roots s fs t q ∙ k.one-roots;
          one-reach = λ u l. same-reach u (omega (arith, k.one-roots)) ∙ k.one-reach u l;
          shots = λ n y l h. shot n y (omega (arith, k.one-roots)) (omega (arith, k.one-reach (suc n) l)) ∙ k.shots n y l h;
        }
      where
        shot : (n y : ℕ) → suc n < roots s → y < reach s (suc n) → guest_byte backing t (suc n) y ≡ guest_byte backing s (suc n) y
        shot n y l h =
            next-byte (suc n) l y h
            ∙ ap (λ (v : ℕ → ℕ). v (backing_byte backing s y)) (sh (nr (suc n) (y / cluster_size s / per_table s)) (y / cluster_size s % per_table s) (y % cluster_size s)
            (omega (arith, in_root s fs (suc n) y h, root-few s fs (suc n) l)) (omega arith) (mod-lt (y / cluster_size s) (e_pos s fs)) (mod-lt y (c_pos s fs)))
            ∙ sym (guest_rd s fs backing k.sound (suc n) l y h)

    pub next_seen : SameDisk (disk_size s) (rd (geo s) (code s) (backing_byte backing s) t 0) (guest_byte backing t 0)
    unfolding SameDisk
    next_seen y l = sym (next-byte 0 (omega (arith, root-count s fs)) y (rw (reach-0 s) l))

    pub next_exact : ((c : ℕ) → c < clusters s → cnt (geo s) (mem (cluster_size s) t) c ≡ refs_of (geo s) (code s) (mem (cluster_size s) t) c)
        → (c : ℕ) → c < clusters t → count_of t c ≡ occurrences c (references t)
    next_exact h c l =
        sym (cnt_own t next_facts c l)
        ∙ moved (λ (g : Geo) (K : Codec). (c : ℕ) → c < g.N → cnt g (mem g.C t) c ≡ refs_of g K (mem g.C t) c) h c l
        ∙ sym (refs_own t next_facts next-sound c)

-- ---- the plain disk may be read off by either side
pub finished-at : (C : ℕ) (r : Request) (a b : ℕ → ℕ) (y : ℕ) → a y ≡ b y → finished C r a y ≡ finished C r b y
unfolding finished
finished-at C (write x d) a b y e = ap (λ (v : ℕ). if leb x y && ltb y (x + length d) then get_or d (y - x) 0 else v) e
finished-at C (discard g) a b y e = ap (λ (v : ℕ). if eqb (y / C) g then 0 else v) e
finished-at C (repair n) a b y e = e

pub finished-same : (C size : ℕ) (r : Request) (a b : ℕ → ℕ) → SameDisk size a b → SameDisk size (finished C r a) (finished C r b)
unfolding SameDisk
finished-same C size r a b h y l = finished-at C r a b y (h y l)

-- ---- one call
unfoldable pub ExactBy : (backing s : List ℕ) → Facts s → Request → Outcome Ended ℕ → List ℕ → Type 0
ExactBy backing s f r (Err n) t = Unit {0}
ExactBy backing s f r (ok (Stopped u)) t = Unit {0}
ExactBy backing s f r (ok (Finished u)) t = Exact backing s f r t

module _ (backing start s : List ℕ) (k : Good backing start s) where
  pub record Result (r : Request) (o : Outcome Ended ℕ) (b : Bool) (t : List ℕ) : Type 0 where
    pub kept : Ok (geo s) (code s) (mem (cluster_size s) s) t
    pub fed : Fed o b (disk_size s) (rd (geo s) (code s) (backing_byte backing s) s 0) (finished (cluster_size s) r (rd (geo s) (code s) (backing_byte backing s) s 0)) (rd (geo s) (code s) (backing_byte backing s) t 0)
    pub shots : Shots backing s (fs backing start s k) t
    pub exact : ExactBy backing s (fs backing start s k) r o t

  -- what a cut leaves, and what is left once all is stored
  pub result : Bytes backing → (r : Request) (a : ℕ) (cs : List Bool) (p : Plan) → Sure backing s (fs backing start s k) r p → Result r (outcome p a) (stores_count (plan_units p)) (after_loose p a cs s)
  unfolding outcome ended after_loose plan_units apply_all Sure Fed ExactBy SameDisk
  result bb r a cs (refused n) h = rw (loosely-all (epochs s []) a cs (rw (epochs-whole s []) (omega arith)), epochs-whole s []) (record { kept = own backing start s k; fed = λ y l. refl; shots = λ u b x l n p q. refl; exact = tt })
  result bb r a cs (units us) h =
      let M : List ℕ → Type 0 = Mid backing s (fs backing start s k) r (stores_count us) in
      let Q : List ℕ → Type 0 = End backing s (fs backing start s k) r in
      if_elim (λ (o : Ended). Result r (ok o) (stores_count us) (apply_all (loosely (epochs s us) a cs) s)) (leb (length us) a) (Finished (length us)) (Stopped a)
      (λ e. let q : Q (apply_all us s) = rw (epochs-whole s us) at (held_end M Q (epochs s us) s h.0) in
      rw (loosely-all (epochs s us) a cs (rw (epochs-whole s us) (leb-true _ _ e)), epochs-whole s us) (record { kept = q.0; fed = q.1.0; shots = q.2; exact = q.1.1 }))
      (λ e. let q = held_cut M Q (epochs s us) s (untouched backing s (fs backing start s k) bb (own backing start s k) r (stores_count us)) h.0 a cs in
      record { kept = q.0; fed = q.1 a; shots = q.2; exact = tt })

  pub first-cleared : (r : Request) (a : ℕ) (cs : List Bool) (p : Plan) → Sure backing s (fs backing start s k) r p → ClearedFirst s (after_loose p a cs s)
  unfolding after_loose plan_units apply_all Sure ClearedFirst
  first-cleared r a cs (refused n) h = λ b. inl (ap (λ (us : List UnitStore). apply_all us s) (loosely-all (epochs s []) a cs (rw (epochs-whole s []) (omega arith)) ∙ epochs-whole s []))
  first-cleared r a cs (units us) h = held_cut (ClearedFirst s) (λ (t : List ℕ). Unit {0}) (epochs s us) s (λ b. inl refl) h.1 a cs

  pub by_repair : (r : Request) (o : Outcome Ended ℕ) (t : List ℕ) → Ok (geo s) (code s) (mem (cluster_size s) s) t → Shots backing s (fs backing start s k) t → ExactBy backing s (fs backing start s k) r o t → MendedBy backing r o start t
  unfolding MendedBy ExactBy Exact
  by_repair (write x d) o t q sh h = tt
  by_repair (discard g) o t q sh h = tt
  by_repair (repair n) (Err m) t q sh h = tt
  by_repair (repair n) (ok (Stopped u)) t q sh h = tt
  by_repair (repair n) (ok (Finished u)) t q sh h = mended backing start t (next-good backing start s k t q sh) (next_exact backing start s k t q h)

  pub step : Bytes backing → Good backing start start → (c : Call) (picks : List Bool) → BytesOf c.asks
      → Good backing start (left_loose backing s c picks)
      × Step backing start s (guest_byte backing s 0) c (left_loose backing s c picks) (guest_byte backing (left_loose backing s c picks) 0)
      × ClearedFirst s (left_loose backing s c picks)
  unfolding left_loose ends
  step bb b c picks sm =
      let p = plan_of backing s c.asks in
      let t = after_loose p c.allowance picks s in
      let sure = plan_sure backing s (fs backing start s k) bb (own backing start s k) k.judged c.asks sm in
      let w : Result c.asks (outcome p c.allowance) (stores_count (plan_units p)) t = result bb c.asks c.allowance picks p sure in
      let z : SameDisk (disk_size s) (rd (geo s) (code s) (backing_byte backing s) s 0) (guest_byte backing s 0) = next_seen backing start s k s (own backing start s k) in (
        next-good backing start s k t w.kept w.shots,
        record {
          fed = rw (← k.one_size, ← k.one-C)
              (fed-same (disk_size s) _ _ _ _ _ _ z (finished-same (cluster_size s) (disk_size s) c.asks _ _ z) (next_seen backing start s k t w.kept) _ _ w.fed);
          agrees = agrees backing start t (next-good backing start s k t w.kept w.shots) b;
          mended = by_repair c.asks _ t w.kept w.shots w.exact;
        },
        first-cleared c.asks c.allowance picks p sure,
      )

all : (backing start s : List ℕ) → Bytes backing → Good backing start start → Good backing start s → (cs : List Call) → AllBytes cs → LooseHolds backing start s (guest_byte backing s 0) cs
unfolding LooseHolds AllBytes
all backing start s bb b k [] sm = tt
all backing start s bb b k (c ∷ cs) sm = λ picks.
    let r = step backing start s k bb b c picks sm.0 in
    (guest_byte backing (left_loose backing s c picks) 0, r.1, r.2, all backing start (left_loose backing s c picks) bb b r.0 cs sm.1)

-- a series of rough cuts is one of cuts with no order
rough : (backing start s : List ℕ) (disk : ℕ → ℕ) (cs : List Call) → LooseHolds backing start s disk cs → RoughHolds backing start s disk cs
unfolding LooseHolds RoughHolds left_loose left_rough
rough backing start s disk [] h = tt
rough backing start s disk (c ∷ cs) h = λ bytes.
    let e = rough_loose s c.allowance bytes backing c.asks in
    let r = h e.0 in (
      r.0,
      subst (λ (t : List ℕ). Step backing start s disk c t r.0) (sym e.1) r.1,
      rough backing start (left_rough backing s c bytes) r.0 cs (subst (λ (t : List ℕ). LooseHolds backing start t r.0 cs) (sym e.1) r.3),
    )

-- a series of smooth cuts is one of rough cuts, no byte chosen at any of them
smooth : (backing start s : List ℕ) (disk : ℕ → ℕ) (cs : List Call) → RoughHolds backing start s disk cs → Holds backing start s disk cs
unfolding RoughHolds Holds left left_rough
smooth backing start s disk [] h = tt
smooth backing start s disk (c ∷ cs) h =
    let e : left_rough backing s c [] ≡ left backing s c = smooth_cut (plan_of backing s c.asks) c.allowance s in
    let r = h [] in
    (r.0, subst (λ (t : List ℕ). Step backing start s disk c t r.0) e r.1, smooth backing start (left backing s c) r.0 cs (subst (λ (t : List ℕ). RoughHolds backing start t r.0 cs) e r.2))

-- a healthy check is one of an accepted image
pub healthy-check : (backing s : List ℕ) → Healthy (check backing s (2 * clusters s)) → (judge backing s ≡ 0) × Healthy (verdict s)
unfolding check checked_with Healthy
healthy-check backing s h = go (judge backing s) h
  where
    go : (j : ℕ) → Healthy (unless j NotChecked (if ltb (2 * clusters s) (2 * clusters s) then NotChecked 15 else verdict s)) → (j ≡ 0) × Healthy (verdict s)
    go (suc j) h = absurd h
    go zero h = (refl, subst Healthy (if_no (ltb (2 * clusters s) (2 * clusters s)) (NotChecked 15) (verdict s) (le-ltb (2 * clusters s) (2 * clusters s) (le_refl (2 * clusters s)))) h)

pub start-good : (backing s : List ℕ) → Bytes s → Healthy (check backing s (2 * clusters s)) → Good backing s s
start-good backing s by h =
    let e = healthy-check backing s h in
    record { judged = e.0; bytes = by; sound = healthy-sound s (judge_facts backing s e.0) by e.1; one_size = refl; one-C = refl; one-N = refl; one-length = refl; one-roots = refl; one-reach = λ t l. refl; shots = λ n y l h. refl }

pub loose3 : LooseDemand3
loose3 backing s bb by h calls sm = let k = start-good backing s by h in (agrees backing s s k k, all backing s s bb k k calls sm)

-- ---- one call on such an image
pub start_sure : (backing s : List ℕ) → Bytes backing → Bytes s → Healthy (check backing s (2 * clusters s)) → (r : Request) → BytesOf r → (f : Facts s) × Sure backing s f r (plan_of backing s r)
start_sure backing s bb by h r sm = let k = start-good backing s by h in (fs backing s s k, plan_sure backing s (fs backing s s k) bb (own backing s s k) k.judged r sm)

-- sectors
pub sectors_loose : SectorsLoose
unfolding left_loose after_loose
sectors_loose backing s bb by h r sm e stored =
    let k = start_sure backing s bb by h r sm in
    drive_loose (epochs s (plan_units (plan_of backing s r))) s (sure_in backing s k.0 r (plan_of backing s r) k.1) e stored

pub rough3 : RoughDemand3
rough3 backing s bb by h calls sm = let r = loose3 backing s bb by h calls sm in (r.0, rough backing s s (guest_byte backing s 0) calls r.1)

pub demand3 : Demand3
demand3 backing s bb by h calls sm = let r = rough3 backing s bb by h calls sm in (r.0, smooth backing s s (guest_byte backing s 0) calls r.1)
