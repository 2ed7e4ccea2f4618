-- A read is refused as its bytes are, a translation as the read of its byte is, and a read is accepted exactly where none of its bytes is
-- refused. Assumes nothing.
use Rattle.std.specs.Prelude.{if◌then◌else◌, Err, Ok, Result}
use Prim.Native.Nat.{ℕ, zero, suc, ◌+◌, ◌-◌, ◌*◌, ◌/◌, ◌%◌, ◌≤◌, ◌<◌}
use native.Mathlib.Nat.{le-div_iff_mul-le, div-lt_iff_lt-mul, div-mul-le_self, lt-div-mul-add, suc-ne-zero, zero-lt-suc}
use native.Mathlib.Omega.{arith}
use mathlib.Core.Path.{◌≡◌, refl, sym, ap, ◌∙◌, subst}
use mathlib.Core.Logic.{◌⊎◌, inl, inr, ◌↔◌, ◌≢◌}
use mathlib.Core.Bool.{Bool, true, false, not, ◌||◌}
use mathlib.Core.List.{List, [], ◌∷◌}
use lib.Dec.{leb, ltb, eqb}
use lib.ListN.{length}
use borrow.Author.Tests.{ltb-true, ltb-false, leb-false, eqb-true, eqb-false, lt-ltb, le-ltb, le-leb, lt-leb, ne_eqb}
use Rattle.choice.specs.Pick.{unless}
use Rattle.choice.proofs.Tests.{if_yes, if_no, if_zero, if_elim, or-false, false-or}
use Rattle.endian.specs.Big.{be64, part}
use Rattle.qcow2_spec.specs.Header.{version, cluster_size, disk_size, per_table, snapshots, roots, judge_lent, some_lent, judge}
use Rattle.qcow2_spec.specs.Entries.{place, good_l1, good_l2, compressed, zero_mark}
use Rattle.qcow2_spec.specs.Guest.{l1_entry, entry_way, l2_way, way, entry_gives, way_gives, way_number, ways_number, located, translated, translate, found_byte, guest_byte, guest_bytes, reach, outside, touched, range_number, range_into, read_number, read_into}
use Rattle.qcow2_spec.specs.Bytewise.{refusal, bytes_number, bytewise, bytewise_into, Bytewise}
use Rattle.qcow2_spec.specs.declared.Found.{Found}
use Rattle.qcow2_spec.specs.declared.Found.TheVariants.{Host, Zeros, Absent}
use Rattle.qcow2_spec.specs.declared.Way.{Way}
use Rattle.qcow2_spec.specs.declared.Way.TheVariants.{NoTable, Slot}
use Rattle.qcow2_spec.proofs.Facts.{facts, accepted_lent, c_pos, unless-zero}

-- ---- guest clusters of C bytes
module _ (C : ℕ) (pos : 0 < C) where
  div_up : (a b : ℕ) → a ≤ b → a / C ≤ b / C
  div_up a b l = (le-div_iff_mul-le pos).1 (omega (arith, l, div-mul-le_self a C))

  -- the next byte is in the same cluster or in the next
  next-cluster : (x : ℕ) → (suc x / C ≡ x / C) ⊎ (suc x / C ≡ suc (x / C))
  next-cluster x = go (ltb (x / C) (suc x / C)) refl
    where
      near : suc x / C < x / C + 2
      near = (div-lt_iff_lt-mul pos).1 (omega (arith, lt-div-mul-add {a = x} pos))

      go : (b : Bool) → ltb (x / C) (suc x / C) ≡ b → (suc x / C ≡ x / C) ⊎ (suc x / C ≡ suc (x / C))
      go true e = inr (omega (arith, near, ltb-true (x / C) (suc x / C) e))
      go false e = inl (omega (arith, ltb-false (x / C) (suc x / C) e, div_up x (suc x) (omega arith)))

  last_byte : (x l : ℕ) → (x + suc l) / C ≡ (suc x + l) / C
  last_byte x l = ap (λ (y : ℕ). y / C) (omega arith)

  -- a first byte in the second byte's cluster touches no other
  touched-same : (x l : ℕ) → suc x / C ≡ x / C → touched C x (suc (suc l)) ≡ touched C (suc x) (suc l)
  unfolding touched
  touched-same x l e = omega (arith, last_byte x l)

  -- and it touches one more where the second byte starts a cluster
  touched-more : (x l : ℕ) → suc x / C ≡ suc (x / C) → touched C x (suc (suc l)) ≡ suc (touched C (suc x) (suc l))
  unfolding touched
  touched-more x l e = omega (arith, last_byte x l, div_up (suc x) (suc x + l) (omega arith))

  touched_none : (x : ℕ) → touched C x 0 ≡ 0
  unfolding touched
  touched_none x = refl

  -- one byte touches one cluster
  touched-one : (x : ℕ) → touched C x 1 ≡ 1
  unfolding touched
  touched-one x = let e : (x + 0) / C ≡ x / C = ap (λ (y : ℕ). y / C) (omega arith) in omega arith

  touched-some : (x l : ℕ) → touched C x (suc l) ≡ suc (touched C x (suc l) - 1)
  unfolding touched
  touched-some x l = omega (arith, div_up x (x + l) (omega arith))

-- ---- the numbers of ways and of bytes
unless-twice : (n r : ℕ) → unless n (λ k. k) (unless n (λ k. k) r) ≡ unless n (λ k. k) r
unless-twice zero r = refl
unless-twice (suc n) r = refl

-- a translation is refused as its way is
gives-number : (w : Result Way ℕ) (o : ℕ) → refusal (way_gives w o) ≡ way_number w
unfolding refusal way_gives entry_gives way_number
gives-number (Err k) o = refl
gives-number (Ok NoTable) o = refl
gives-number (Ok (Slot a e)) o =
    if_elim (λ (f : Found). refusal (Ok f) ≡ 0) (zero_mark e) _ _ (λ h. refl)
    (λ h. if_elim (λ (f : Found). refusal (Ok f) ≡ 0) (eqb (place e) 0) _ _ (λ z. refl) (λ z. refl))

module _ (s : List ℕ) (ok : judge_lent true s ≡ 0) where
  abbrev C : ℕ
  C = cluster_size s

  pos : 0 < C
  pos = c_pos s (facts s ok)

  byte-number : (t x : ℕ) → refusal (located s t x) ≡ way_number (way s t (x / C))
  unfolding located
  byte-number t x = gives-number (way s t (x / C)) (x % C)

  -- the ways of a range are refused as its bytes are
  ways-bytes : (t len x : ℕ) → ways_number s t (x / C) (touched C x len) ≡ bytes_number s t x len
  unfolding ways_number bytes_number
  ways-bytes t zero x = rw (touched_none C pos x)
  ways-bytes t (suc zero) x = rw (touched-one C pos x, byte-number t x)
  ways-bytes t (suc (suc l)) x = rw (byte-number t x, ← (ways-bytes t (suc l) (suc x))) (go (next-cluster C pos x))
    where
      go : (suc x / C ≡ x / C) ⊎ (suc x / C ≡ suc (x / C))
          → ways_number s t (x / C) (touched C x (suc (suc l))) ≡ unless (way_number (way s t (x / C))) (λ k. k) (ways_number s t (suc x / C) (touched C (suc x) (suc l)))
      go (inl e) = rw (touched-same C pos x l e, e, touched-some C pos (suc x) l) (sym (unless-twice (way_number (way s t (x / C))) _))
      go (inr e) = rw (touched-more C pos x l e, e)

-- ---- the law
or_assoc : (a b c : Bool) → (a || b || c) ≡ (a || (b || c))
or_assoc true b c = refl
or_assoc false b c = refl

both : (a b : Bool) (n : ℕ) → (if a || b then 11 else n) ≡ (if a then 11 else if b then 11 else n)
both true b n = refl
both false b n = refl

past : (size x len : ℕ) → (ltb size x || ltb (size - x) len) ≡ ltb size (x + len)
past size x len = go (ltb size (x + len)) refl
  where
    go : (b : Bool) → ltb size (x + len) ≡ b → (ltb size x || ltb (size - x) len) ≡ b
    go false e = false-or _ _ (le-ltb size x (omega (arith, ltb-false size (x + len) e))) (le-ltb (size - x) len (omega (arith, ltb-false size (x + len) e)))
    go true e = first (ltb size x) refl
      where
        first : (c : Bool) → ltb size x ≡ c → (c || ltb (size - x) len) ≡ true
        first true d = refl
        first false d = lt-ltb (size - x) len (omega (arith, ltb-true size (x + len) e, ltb-false size x d))

-- the number of a range of an accepted image
range_bytewise : (s : List ℕ) → judge_lent true s ≡ 0 → (t x len : ℕ)
    → range_number s t x len ≡ (if leb (roots s) t then 11 else if ltb (reach s t) (x + len) then 11 else bytes_number s t x len)
unfolding range_number outside
range_bytewise s ok t x len =
    rw (or_assoc (leb (roots s) t) (ltb (reach s t) x) (ltb (reach s t - x) len), past (reach s t) x len, ways-bytes s ok t len x)
    (both (leb (roots s) t) (ltb (reach s t) (x + len)) _)

-- the bytes of an accepted range are those of the disk
inside_disk : (s : List ℕ) (t x len : ℕ) → range_number s t x len ≡ 0 → (t < roots s) × (x + len ≤ reach s t)
unfolding range_number outside
inside_disk s t x len e =
    let q = (if_zero (leb (roots s) t || ltb (reach s t) x || ltb (reach s t - x) len) 10 _ e).0 in
    let o = or-false (leb (roots s) t) _ (rw (or_assoc (leb (roots s) t) (ltb (reach s t) x) (ltb (reach s t - x) len), past (reach s t) x len) at q) in
    (leb-false _ _ o.0, ltb-false _ _ o.1)

-- what is refused reads as zeros
refused-zero : (backing s : List ℕ) (x : ℕ) (f : Result Found ℕ) → refusal f ≢ 0 → found_byte backing s x f ≡ 0
unfolding refusal found_byte
refused-zero backing s x (Ok (Host h)) n = absurd (n refl)
refused-zero backing s x (Ok Zeros) n = refl
refused-zero backing s x (Ok Absent) n = absurd (n refl)
refused-zero backing s x (Err k) n = refl

unless-none : (n : ℕ) → unless n (λ k. k) 0 ≡ n
unless-none zero = refl
unless-none (suc n) = refl

-- there is always the active table
active_there : (s : List ℕ) → leb (roots s) 0 ≡ false
unfolding roots
active_there s = lt-leb (roots s) 0 (zero-lt-suc (snapshots s))

module _ (backing s : List ℕ) where
  lent : judge backing s ≡ 0 → judge_lent true s ≡ 0
  unfolding judge
  lent e = accepted_lent (some_lent backing) s e

  pub number-bytewise : (t x len : ℕ) → read_number backing s t x len ≡ bytewise backing s t x len
  unfolding read_number bytewise
  number-bytewise t x len = go (judge backing s) refl
    where
      go : (j : ℕ) → judge backing s ≡ j
          → unless j (λ k. k) (range_number s t x len)
          ≡ unless j (λ k. k) (if leb (roots s) t then 11 else if ltb (reach s t) (x + len) then 11 else bytes_number s t x len)
      go (suc j) e = refl
      go zero e = range_bytewise s (lent e) t x len

  into_number : (t x : ℕ) (out : List ℕ) → read_into backing s t x out ≡ (if eqb (read_number backing s t x (length out)) 0 then guest_bytes backing s t x (length out) else out)
  unfolding read_into range_into read_number
  into_number t x out = go (judge backing s)
    where
      go : (j : ℕ)
          → unless j (λ k. out) (if eqb (range_number s t x (length out)) 0 then guest_bytes backing s t x (length out) else out)
          ≡ (if eqb (unless j (λ k. k) (range_number s t x (length out))) 0 then guest_bytes backing s t x (length out) else out)
      go zero = refl
      go (suc j) = sym (if_no (eqb (suc j) 0) _ out (ne_eqb (suc j) 0 (suc-ne-zero j)))

  into_bytewise : (t x : ℕ) (out : List ℕ) → read_into backing s t x out ≡ bytewise_into backing s t x out
  unfolding bytewise_into guest_bytes guest_byte
  into_bytewise t x out = into_number t x out ∙ rw (number-bytewise t x (length out)) refl

  -- ---- a translation, on the disk and past its end
  pub translate-inside : (x : ℕ) → judge backing s ≡ 0 → x < disk_size s → translate backing s x ≡ located s 0 x
  unfolding translate translated
  translate-inside x e l = rw e (if_no (leb (disk_size s) x) _ _ (lt-leb _ _ l))

  pub translate-refused : (x j : ℕ) → judge backing s ≡ suc j → translate backing s x ≡ Err (suc j)
  unfolding translate
  translate-refused x j e = rw e

  pub translate-past : (x : ℕ) → judge backing s ≡ 0 → disk_size s ≤ x → translate backing s x ≡ Err 11
  unfolding translate translated
  translate-past x e l = rw e (if_yes (leb (disk_size s) x) _ _ (le-leb _ _ l))

  translate-bytewise : (x : ℕ) → refusal (translate backing s x) ≡ bytewise backing s 0 x 1
  unfolding bytewise bytes_number reach refusal
  translate-bytewise x = rw (active_there s) (go (judge backing s) refl)
    where
      go : (j : ℕ) → judge backing s ≡ j
          → refusal (translate backing s x) ≡ unless j (λ k. k) (if ltb (disk_size s) (x + 1) then 11 else unless (refusal (located s 0 x)) (λ k. k) 0)
      go (suc j) e = ap refusal (translate-refused x j e)
      go zero e =
          if_elim (λ (n : ℕ). refusal (translate backing s x) ≡ n) (ltb (disk_size s) (x + 1)) _ _
          (λ h. ap refusal (translate-past x e (omega (arith, ltb-true (disk_size s) (x + 1) h))))
          (λ h. ap refusal (translate-inside x e (omega (arith, ltb-false (disk_size s) (x + 1) h))) ∙ sym (unless-none (refusal (located s 0 x))))

  -- an accepted read: the image is accepted, and the range lies on the disk
  accepted_range : (t x len : ℕ) → read_number backing s t x len ≡ 0 → (judge backing s ≡ 0) × (t < roots s) × (x + len ≤ reach s t)
  unfolding read_number
  accepted_range t x len e =
      let p = unless-zero (judge backing s) (range_number s t x len) e in
      let q = inside_disk s t x len p.1 in
      (p.0, q.0, q.1)

  translate-read : (x : ℕ) → refusal (translate backing s x) ≡ read_number backing s 0 x 1 → read_into backing s 0 x (0 ∷ []) ≡ found_byte backing s x (translate backing s x) ∷ []
  unfolding guest_bytes guest_byte reach
  translate-read x r =
      into_number 0 x (0 ∷ [])
      ∙ if_elim (λ (l : List ℕ). l ≡ found_byte backing s x (translate backing s x) ∷ []) (eqb (read_number backing s 0 x 1) 0) _ _
      (λ e. let p = accepted_range 0 x 1 (eqb-true _ _ e) in ap (λ (f : Result Found ℕ). found_byte backing s x f ∷ []) (sym (translate-inside x p.0 (omega (arith, p.2)))))
      (λ e. ap (λ (y : ℕ). y ∷ []) (sym (refused-zero backing s x (translate backing s x) (λ z. eqb-false _ _ e (sym r ∙ z)))))

pub read-bytewise : Bytewise
read-bytewise backing s x =
    let r : refusal (translate backing s x) ≡ read_number backing s 0 x 1 = translate-bytewise backing s x ∙ sym (number-bytewise backing s 0 x 1) in
    ((λ t len. number-bytewise backing s t x len), (λ t out. into_bytewise backing s t x out), r, translate-read backing s x r)

-- ---- where a read is accepted
-- a number other than 0
unfoldable pub Numbered : Result Found ℕ → Type 0
Numbered (Ok (Host h)) = Unit {0}
Numbered (Ok Zeros) = Unit {0}
Numbered (Ok Absent) = Unit {0}
Numbered (Err k) = k ≢ 0

unfoldable WayNumbered : Result Way ℕ → Type 0
WayNumbered (Err k) = k ≢ 0
WayNumbered (Ok NoTable) = Unit {0}
WayNumbered (Ok (Slot a e)) = Unit {0}

way_numbered : (s : List ℕ) (t g : ℕ) → WayNumbered (way s t g)
unfolding WayNumbered way l2_way entry_way
way_numbered s t g =
    if_elim WayNumbered (not (good_l1 (cluster_size s) (length s) (l1_entry s t g))) _ _ (λ b. suc-ne-zero 11)
    (λ b. if_elim WayNumbered (eqb (place (l1_entry s t g)) 0) _ _ (λ z. tt)
    (λ z. if_elim WayNumbered (compressed (entry s t g)) _ _ (λ c. suc-ne-zero 12)
    (λ c. if_elim WayNumbered (not (good_l2 (version s) (cluster_size s) (length s) (entry s t g))) _ _ (λ d. suc-ne-zero 11) (λ d. tt))))
  where
    entry : List ℕ → ℕ → ℕ → ℕ
    entry s t g = be64 (part s (place (l1_entry s t g)) (cluster_size s)) (8 * (g % per_table s))

gives_numbered : (w : Result Way ℕ) (o : ℕ) → WayNumbered w → Numbered (way_gives w o)
unfolding Numbered WayNumbered way_gives entry_gives
gives_numbered (Err k) o h = h
gives_numbered (Ok NoTable) o h = tt
gives_numbered (Ok (Slot a e)) o h = if_elim (λ f. Numbered (Ok f)) (zero_mark e) _ _ (λ z. tt) (λ z. if_elim (λ f. Numbered (Ok f)) (eqb (place e) 0) _ _ (λ p. tt) (λ p. tt))

-- what is refused has a number
pub numbered : (s : List ℕ) (t x : ℕ) → Numbered (located s t x)
unfolding located
numbered s t x = gives_numbered (way s t (x / cluster_size s)) (x % cluster_size s) (way_numbered s t (x / cluster_size s))

-- it is no refusal
abbrev pub Taken : Result Found ℕ → Type 0
Taken f = (k : ℕ) → f ≡ Err k → ⊥

taken : (f : Result Found ℕ) → Numbered f → (refusal f ≡ 0) ↔ Taken f
unfolding Numbered refusal
taken f n = (there, back f)
  where
    there : refusal f ≡ 0 → Taken f
    there e k q = subst Numbered q n (ap refusal (sym q) ∙ e)

    back : (f : Result Found ℕ) → Taken f → refusal f ≡ 0
    back (Ok (Host h)) t = refl
    back (Ok Zeros) t = refl
    back (Ok Absent) t = refl
    back (Err k) t = absurd (t k refl)

bytes-zero : (s : List ℕ) (t len x : ℕ) → bytes_number s t x len ≡ 0 → (y : ℕ) → x ≤ y → y < x + len → refusal (located s t y) ≡ 0
unfolding bytes_number
bytes-zero s t zero x e y a b = absurd (omega arith)
bytes-zero s t (suc l) x e y a b =
    let p = unless-zero (refusal (located s t x)) (bytes_number s t (suc x) l) e in
    go (ltb x y) refl p.0 (λ q. bytes-zero s t l (suc x) p.1 y q (omega arith))
  where
    go : (b : Bool) → ltb x y ≡ b → refusal (located s t x) ≡ 0 → (x < y → refusal (located s t y) ≡ 0) → refusal (located s t y) ≡ 0
    go true q first later = later (ltb-true x y q)
    go false q first later = let z : y ≡ x = omega (arith, ltb-false x y q) in rw z first

zero-bytes : (s : List ℕ) (t len x : ℕ) → ((y : ℕ) → x ≤ y → y < x + len → refusal (located s t y) ≡ 0) → bytes_number s t x len ≡ 0
unfolding bytes_number
zero-bytes s t zero x h = refl
zero-bytes s t (suc l) x h = rw (h x (omega arith) (omega arith)) (zero-bytes s t l (suc x) (λ y a b. h y (omega arith) (omega arith)))

-- a read is accepted exactly where the image is, there is such a table, the range lies on its disk, and no byte of it is refused
module _ (backing s : List ℕ) (t x len : ℕ) where
  abbrev Accepts : Type 0
  Accepts = (judge backing s ≡ 0) × (t < roots s) × (x + len ≤ reach s t) × ((y : ℕ) → x ≤ y → y < x + len → Taken (located s t y))

  bytewise-inside : judge backing s ≡ 0 → t < roots s → x + len ≤ reach s t → bytewise backing s t x len ≡ bytes_number s t x len
  unfolding bytewise
  bytewise-inside ok h l = rw ok (if_no (leb (roots s) t) 11 _ (lt-leb _ _ h) ∙ if_no (ltb (reach s t) (x + len)) 11 _ (le-ltb _ _ l))

  pub read-accepted : (read_number backing s t x len ≡ 0) ↔ Accepts
  read-accepted = (there, back)
    where
      there : read_number backing s t x len ≡ 0 → Accepts
      there e =
          let p = accepted_range backing s t x len e in
          let z : bytes_number s t x len ≡ 0 = sym (bytewise-inside p.0 p.1 p.2) ∙ sym (number-bytewise backing s t x len) ∙ e in
          (p.0, p.1, p.2, λ y a b. (taken (located s t y) (numbered s t y)).0 (bytes-zero s t len x z y a b))

      back : Accepts → read_number backing s t x len ≡ 0
      back p =
          number-bytewise backing s t x len ∙ bytewise-inside p.0 p.1 p.2
          ∙ zero-bytes s t len x (λ y a b. (taken (located s t y) (numbered s t y)).1 (p.3 y a b))
