-- Two levels of tables: what their entries refer to, and the first that fails. No image format is known here: when an entry is good, which place it
-- names and what stands below that place are parameters.
-- Assumes nothing.
use Rattle.std.specs.Prelude.{ℕ, suc, Bool, not, List, [], ◌∷◌, eqb, if◌then◌else◌}

-- what a lower entry refers to; a bad one counts for nothing
abbrev pub lower_refs : (good : ℕ → Bool) → (names : ℕ → List ℕ) → ℕ → List ℕ
lower_refs good names e = if good e then names e else []

-- what an upper entry and the table below it refer to; a bad one counts for nothing, and so does one that names no place
abbrev pub upper_refs : (good : ℕ → Bool) → (place : ℕ → ℕ) → (below : ℕ → List ℕ) → ℕ → List ℕ
upper_refs good place below e =
    if not (good e) then [] else
    if eqb (place e) 0 then [] else
    below (place e)

-- the lower entries es, from index j on: the first that fails is named; `next` where none does
abbrev pub seek_lower : {A : Type 0} → (good : ℕ → Bool) → (bad : ℕ → A) → (j : ℕ) → List ℕ → A → A
seek_lower good bad j [] next = next
seek_lower good bad j (e ∷ es) next = if good e then seek_lower good bad (suc j) es next else bad j

-- an upper entry, and then what stands below the place that it names
abbrev pub seek_upper : {A : Type 0} → (good : ℕ → Bool) → (place : ℕ → ℕ) → (bad : A) → (below : ℕ → A → A) → ℕ → A → A
seek_upper good place bad below e next =
    if not (good e) then bad else
    if eqb (place e) 0 then next else
    below (place e) next

-- the upper entries es, from index i on
abbrev pub seek_rows : {A : Type 0} → (entry : (i e : ℕ) → A → A) → (i : ℕ) → List ℕ → A → A
seek_rows entry i [] next = next
seek_rows entry i (e ∷ es) next = entry i e (seek_rows entry (suc i) es next)
