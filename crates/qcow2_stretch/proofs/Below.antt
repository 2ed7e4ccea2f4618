-- A run over the entries of one L2 table.
-- Assumes nothing.
use Rattle.std.specs.Prelude.{Err, Ok, Result}
use Prim.Native.Nat.{ℕ, ◌+◌, ◌-◌, ◌*◌, ◌/◌, ◌%◌, ◌^◌, ◌≤◌, ◌<◌, min}
use native.Mathlib.Nat.{add-mul, one-mul, mod-lt, div-add-mod', div-lt_iff_lt-mul, lt_of_mul-lt-mul_right, add-mul-div_right, add-mul-mod_self_right, add-sub_cancel_left}
use native.Mathlib.Omega.{arith}
use mathlib.Core.Path.{◌≡◌, refl, sym, ap, subst, ◌∙◌}
use mathlib.Core.Bool.{true, false}
use mathlib.Core.List.{List}
use lib.ListN.{length, drop, length-drop}
use lib.Seq.{length-take-le}
use lib.Pow.{pow_pos}
use Rattle.endian.specs.Big.{be64, part}
use Rattle.qcow2_spec.specs.Header.{cluster_size, most_length}
use Rattle.qcow2_spec.specs.Guest.{reach, located}
use Rattle.qcow2_spec.specs.Runs.{moved, found_host, goes_on}
use Rattle.qcow2_spec.specs.Opened.{Opened}
use Rattle.qcow2_spec.specs.declared.Geometry.{Geometry}
use Rattle.qcow2_spec.specs.declared.Found.{Found}
use Rattle.qcow2_spec.specs.declared.Found.TheVariants.{Host, Zeros, Absent}
use Rattle.qcow2_spec.proofs.Runs.{same_self, same-is}
use Rattle.qcow2_spec.proofs.Facts.{facts, c_in}
use Rattle.qcow2_spec.proofs.Numbers.{part8}
use Rattle.qcow2_found.specs.Entry.{entry_found}
use Rattle.qcow2_found.proofs.Marked.{entry-way}
use Rattle.qcow2_guest.specs.Rows.{Below, row_left}
use Rattle.qcow2_guest.proofs.Bytes.{below_from_lem, found}
use Rattle.qcow2_guest.proofs.Pieces.{same_rest, located-moved, host_in}
use Rattle.qcow2_stretch.specs.Going.{Goes, Ahead}
use Rattle.qcow2_alike.specs.Alike.{Entries, entry_goes, entries_end}
use Rattle.qcow2_alike.proofs.Entries.{end_low, end_high, end_on, end_off}

moved-moved : (f : Result Found ℕ) (i j : ℕ) → moved (moved f i) j ≡ moved f (i + j)
moved-moved (Ok (Host h)) i j = ap (λ h. Ok (Host h)) (omega arith)
moved-moved (Ok Zeros) i j = refl
moved-moved (Ok Absent) i j = refl
moved-moved (Err k) i j = refl

-- a host offset is small
pub host_small : (g : Geometry) (s : List ℕ) → Opened g s → (x : ℕ) (f : Result Found ℕ) → x < reach s g.root → f ≡ located s g.root x → found_host f ≤ most_length
host_small g s o x (Ok (Host h)) l d = omega (arith, host_in g s o x h l (sym d), o.short)
host_small g s o x (Ok Zeros) l d = omega arith
host_small g s o x (Ok Absent) l d = omega arith
host_small g s o x (Err k) l d = omega arith

module _ (g : Geometry) (s : List ℕ) (o : Opened g s) (x : ℕ) (f : Result Found ℕ) (i left : ℕ) (d : f ≡ located s g.root x) (a : Ahead g s x i left) (t : ℕ) (b : Below s g.root t (x + i) left) where
  abbrev C : ℕ
  C = 2 ^ g.bits

  abbrev E : ℕ
  E = 2 ^ (g.bits - 3)

  abbrev from : ℕ
  from = (x + i) / C % E

  -- entries that start with bytes that are left stand in the table
  index : (q : ℕ) → q * C < left → from + q < E
  unfolding row_left
  index q h =
      let l : left ≤ (E - from) * C - (x + i) % C = a.row in
      let m : q < E - from = lt_of_mul-lt-mul_right C (omega arith) in
      omega arith

  module _ (q : ℕ) (h : q * C < left) where
    abbrev y : ℕ
    y = x + i + q * C

    aligned : y % C ≡ 0
    aligned = add-mul-mod_self_right (x + i) q C ∙ a.start

    place_of : from + q ≡ y / C % E
    place_of = sym (rw (add-mul-div_right (x + i) q (pow_pos g.bits)) (same_rest E ((x + i) / C) q (index q h)))

    entry : be64 (part s t C) (8 * (from + q)) ≡ be64 s (t + 8 * (from + q))
    entry = part8 s t C (8 * (from + q)) (omega (arith, index q h, o.eight, o.is-cluster, o.is-per))

    start-found : located s g.root y ≡ entry_found g.version C (length s) (be64 (part s t C) (8 * (from + q))) 0
    start-found =
        let u = found g s o t y (below_from_lem s g.root t (x + i) left (q * C) 1 (omega arith) b) (from + q) _ place_of entry in
        sym (rw aligned at u) ∙ entry-way g.version C (length s) (t + 8 * (from + q)) _ 0

    goes_at : goes_on s g.root x (i + q * C) ≡ entry_goes g.version C (length s) (part s t C) (moved f i) from (from + q)
    unfolding goes_on entry_goes
    goes_at =
        let e : x + (i + q * C) ≡ y = omega arith in
        let k : from + q - from ≡ q = add-sub_cancel_left from q in
        rw (e, start-found, k, moved-moved, d)

    -- and with the first byte the others of the guest cluster
    goes_on_lem : goes_on s g.root x (i + q * C) ≡ true → (j : ℕ) → j < C → goes_on s g.root x (i + (q * C + j)) ≡ true
    unfolding goes_on
    goes_on_lem e j l =
        let m : x + (i + q * C) ≡ y = omega arith in
        let w : located s g.root (x + (i + q * C)) ≡ moved (located s g.root x) (i + q * C) = same-is _ _ e in
        let z : y % cluster_size s + j < cluster_size s = subst (λ (k : ℕ). y % k + j < k) o.is-cluster (omega (arith, aligned)) in
        let v : located s g.root (y + j) ≡ moved (located s g.root y) j = located-moved s g.root y j z in
        let n : x + (i + (q * C + j)) ≡ y + j = omega arith in
        let p : i + (q * C + j) ≡ i + q * C + j = omega arith in
        rw (n, v, ← m, w, moved-moved, p) (same_self _)

  -- entries enough for the bytes that are left
  module _ (count : ℕ) (c : count ≡ (left + (C - 1)) / C) where
    enough : left ≤ count * C
    enough =
        let p : 0 < C = pow_pos g.bits in
        rw c (omega (arith, div-add-mod' (left + (C - 1)) C, mod-lt (left + (C - 1)) p))

    count_in : from + count ≤ E
    unfolding row_left
    count_in =
        let p : 0 < C = pow_pos g.bits in
        let l : left ≤ (E - from) * C - (x + i) % C = a.row in
        let m : from < E = mod-lt ((x + i) / C) (pow_pos (g.bits - 3)) in
        let n : count < E - from + 1 = rw c ((div-lt_iff_lt-mul p).1 (omega (arith, add-one (E - from)))) in
        omega arith
      where
        add-one : (z : ℕ) → (z + 1) * C ≡ z * C + C
        add-one z = omega (arith, add-mul z 1 C, one-mul C)

    -- what is asked of these entries
    table-entries : Entries g.bits (length s) from (from + count) (part s t C)
    table-entries =
        let n : length (part s t C) ≡ C = length-take-le C (drop t s) (simp length-drop (omega (arith, b.inside, o.is-cluster))) in
        record {
          low = o.low;
          high = o.high;
          least = rw o.is-cluster (c_in s (facts s o.accepted));
          most = o.short;
          order = omega arith;
          inside = rw n (omega (arith, count_in, o.eight, o.is-cluster, o.is-per));
        }

    -- and of where they end
    end_in : (k : ℕ) → k ≡ entries_end g.version C (length s) (part s t C) (moved f i) from from (from + count) → (from ≤ k) × (k ≤ from + count)
    end_in k e = (rw e (end_low _ _ _ _ _ from (from + count) (omega arith)), rw e (end_high _ _ _ _ _ from (from + count) (omega arith)))

    table_goes : (k r : ℕ) → k ≡ entries_end g.version C (length s) (part s t C) (moved f i) from from (from + count) → r ≡ min ((k - from) * C) left → Goes s g.root x i left r
    table_goes k r e m =
        record { most = omega arith; on = λ j l. on j (omega arith) (omega arith); ends = λ l. stop (omega arith) (omega arith) }
      where
        low : from ≤ k
        low = (end_in k e).0

        on : (j : ℕ) → j < left → j < (k - from) * C → goes_on s g.root x (i + j) ≡ true
        on j l n =
            let p : 0 < C = pow_pos g.bits in
            let q : ℕ = j / C in
            let u : q < k - from = (div-lt_iff_lt-mul p).1 n in
            let z : q * C + j % C ≡ j = div-add-mod' j C in
            let h : q * C < left = omega arith in
            let w : from + q < entries_end g.version C (length s) (part s t C) (moved f i) from from (from + count) = rw (← e) (omega arith) in
            rw z at (goes_on_lem q h (goes_at q h ∙ end_on _ _ _ _ _ from (from + count) (omega arith) (from + q) (omega arith) w) (j % C) (mod-lt j p))

        stop : r ≡ (k - from) * C → (k - from) * C < left → goes_on s g.root x (i + r) ≡ false
        stop q h =
            let u : k - from < count = lt_of_mul-lt-mul_right C (omega (arith, enough, h)) in
            let w : entries_end g.version C (length s) (part s t C) (moved f i) from from (from + count) < from + count = rw (← e) (omega (arith, low)) in
            let z : from + (k - from) ≡ k = omega (arith, low) in
            rw q (goes_at (k - from) h ∙ rw (z, e) (end_off _ _ _ _ _ from (from + count) (omega arith) w))

  -- ---- by the numbers of the code
  module _ (c q start count : ℕ) (z : c ≡ C) (u : q ≡ (x + i) / C) (v : start ≡ q % E) (w : count ≡ (left + (c - 1)) / C) where
    size : t + c - t ≡ C
    size = add-sub_cancel_left t c ∙ z

    start_is : start ≡ from
    start_is = v ∙ ap (λ (k : ℕ). k % E) u

    count-is : count ≡ (left + (C - 1)) / C
    count-is = w ∙ ap (λ (k : ℕ). (left + (k - 1)) / C) z

    pub entries_asked : Entries g.bits (length s) start (start + count) (part s t (t + c - t))
    entries_asked = rw (size, start_is) (table-entries count count-is)

    module _ (k : ℕ) (e : k ≡ entries_end g.version C (length s) (part s t (t + c - t)) (moved f i) start start (start + count)) where
      ended : k ≡ entries_end g.version C (length s) (part s t C) (moved f i) from from (from + count)
      ended = rw (size, start_is) at e

      pub end_bounds : (start ≤ k) × (8 * k ≤ C)
      end_bounds =
          let d = end_in count count-is k ended in
          (rw start_is d.0, omega (arith, d.1, count_in count count-is, o.eight, o.is-cluster, o.is-per))

      pub entries_go : (r : ℕ) → r ≡ min ((k - start) * c) left → Goes s g.root x i left r
      entries_go r m = table_goes count count-is k r ended (rw (start_is, z) at m)
