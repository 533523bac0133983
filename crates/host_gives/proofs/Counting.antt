-- The last numbers of filesets, after a change.
use Rattle.std.proofs.Common.{◌≡◌, ℕ, suc, ◌+◌, ◌≤◌, ◌<◌, Bool, true, false, ◌==◌, not, cond, List, [], ◌∷◌, ◌++◌, length, Some, None, refl, sym, ap, ◌∙◌, arith}
use Rattle.std.specs.Prelude.{slice_set}
use Rattle.std.specs.List.{find, position}
use Rattle.std.specs.Option.{option_map_or}
use Rattle.std.proofs.lemmas.Bool.{cases_Bool, eqb-true}
use Rattle.std.proofs.lemmas.Grind.{common_steps}
use Rattle.base_types.specs.declared.ids.FilesetId.{FilesetId}
use Rattle.host_gives.specs.declared.counters.Counter.{Counter}
use Rattle.host_gives.specs.Counters.{is_of, last_of, with_last}
use Rattle.host_gives.proofs.Places.{place, at_place, at_none}

put_there : (counters : List Counter) (fileset : FilesetId) (number : ℕ) →
    place (is_of fileset) counters < length counters →
    slice_set counters (place (is_of fileset) counters) (record { fileset = fileset; number = number })
    ≡ with_last counters fileset number
put_there [] fileset number lt = absurd (omega (arith, lt))
put_there (c ∷ cs) fileset number lt =
    let new : Counter = record { fileset = fileset; number = number } in
    elim (is_of fileset c) as (λ t. cond (not t) (1 + place (is_of fileset) cs) 0 < suc (length cs) →
    slice_set (c ∷ cs) (cond (not t) (1 + place (is_of fileset) cs) 0) new
    ≡ cond t (new ∷ cs) (c ∷ with_last cs fileset number)) [
      | true ↦ λ k. refl
      | false ↦ λ k.
          let same : 1 + place (is_of fileset) cs ≡ suc (place (is_of fileset) cs) = omega arith in
          ap (λ n. slice_set (c ∷ cs) n new) same
          ∙ ap (λ ys. c ∷ ys) (put_there cs fileset number (omega (arith, k)))
    ] lt

pub put_last : (counters : List Counter) (fileset : FilesetId) (number i : ℕ) →
    position (is_of fileset) counters ≡ Some i →
    slice_set counters i (record { fileset = fileset; number = number }) ≡ with_last counters fileset number
put_last counters fileset number i h =
    let k = at_place (is_of fileset) counters i h in
    ap (λ n. slice_set counters n (record { fileset = fileset; number = number })) k.1
    ∙ put_there counters fileset number k.0

pushed_there : (counters : List Counter) (fileset : FilesetId) (number : ℕ) →
    length counters ≤ place (is_of fileset) counters →
    counters ++ record { fileset = fileset; number = number } ∷ [] ≡ with_last counters fileset number
pushed_there [] fileset number le = refl
pushed_there (c ∷ cs) fileset number le =
    let new : Counter = record { fileset = fileset; number = number } in
    elim (is_of fileset c) as (λ t. suc (length cs) ≤ cond (not t) (1 + place (is_of fileset) cs) 0 →
    c ∷ (cs ++ new ∷ []) ≡ cond t (new ∷ cs) (c ∷ with_last cs fileset number)) [
      | true ↦ λ k. absurd (omega (arith, k))
      | false ↦ λ k. ap (λ ys. c ∷ ys) (pushed_there cs fileset number (omega (arith, k)))
    ] le

pub push_last : (counters : List Counter) (fileset : FilesetId) (number : ℕ) →
    position (is_of fileset) counters ≡ None →
    counters ++ record { fileset = fileset; number = number } ∷ [] ≡ with_last counters fileset number
push_last counters fileset number h = pushed_there counters fileset number (at_none (is_of fileset) counters h)

-- the last numbers read after the change
pub last_with : (counters : List Counter) (fileset : FilesetId) (number : ℕ) (other : FilesetId) →
    last_of (with_last counters fileset number) other
    ≡ cond (fileset.0 == other.0) number (last_of counters other)
last_with [] fileset number other = grind (arith, common_steps, cases_Bool (fileset.0 == other.0))
last_with (c ∷ cs) fileset number other =
    let rest = last_with cs fileset number other in
    elim (is_of fileset c) as (λ t. is_of fileset c ≡ t →
    last_of (cond t (record { fileset = fileset; number = number } ∷ cs) (c ∷ with_last cs fileset number)) other
    ≡ cond (fileset.0 == other.0) number (last_of (c ∷ cs) other)) [
      | true ↦ λ e.
          let same : c.fileset.0 ≡ fileset.0 = eqb-true c.fileset.0 fileset.0 e in
          here (fileset.0 == other.0) (ap (λ n. n == other.0) same)
      | false ↦ λ e. there (c.fileset.0 == other.0) refl e rest
    ] refl
  where
    here : (b : Bool) → (c.fileset.0 == other.0) ≡ b →
        option_map_or (λ counter. counter.number)
        (cond b (Some (record { fileset = fileset; number = number })) (find (is_of other) cs)) 0
        ≡ cond b number (last_of (c ∷ cs) other)
    here true e = refl
    here false e =
        sym (ap (λ t. option_map_or (λ counter. counter.number) (cond t (Some c) (find (is_of other) cs)) 0) e)

    there : (b : Bool) → (c.fileset.0 == other.0) ≡ b → is_of fileset c ≡ false →
        last_of (with_last cs fileset number) other ≡ cond (fileset.0 == other.0) number (last_of cs other) →
        option_map_or (λ counter. counter.number) (cond b (Some c) (find (is_of other) (with_last cs fileset number))) 0
        ≡ cond (fileset.0 == other.0) number
        (option_map_or (λ counter. counter.number) (cond b (Some c) (find (is_of other) cs)) 0)
    there true e apart rest =
        let same : c.fileset.0 ≡ other.0 = eqb-true c.fileset.0 other.0 e in
        let differs : (fileset.0 == other.0) ≡ false = grind (arith, common_steps, same, apart) in
        ap (λ t. cond t number c.number) (sym differs)
    there false e apart rest = rest
