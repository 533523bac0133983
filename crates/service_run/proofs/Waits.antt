-- The line of a run that came to no end.
use Rattle.std.proofs.Common.{◌≡◌, ◌+◌, ◌∙◌, ℕ, zero, suc, Bool, true, false, List, [], ◌∷◌, ◌++◌, Option, None, Some}
use Rattle.std.proofs.Common.{refl, sym, ap, subst}
use Rattle.std.specs.Prelude.{filter, if◌then◌else◌}
use Rattle.base_types.specs.declared.ids.Node.{Node}
use Rattle.script_lines.specs.declared.script.Line.{Line}
use Rattle.service_run.specs.Lines.{has_gone, last_gone, last_number}

-- the last of these lines that went, where this one was the last before
abbrev pub last_from : Node → Option ℕ → Option ℕ → List Line → Option ℕ
last_from node next last [] = last
last_from node next last (line ∷ lines) = last_from node next
    (if has_gone node next line then Some line.number else last) lines

abbrev or_last : Option ℕ → Option ℕ → Option ℕ
or_last last None = last
or_last last (Some number) = Some number

last_more : (line : Line) (lines : List Line) → last_number (line ∷ lines) ≡ or_last (Some line.number)
    (last_number lines)
last_more line [] = refl
last_more line (x ∷ lines) = sym (some_there x lines)
  where
    some_there : (x : Line) (lines : List Line) → or_last (Some line.number) (last_number (x ∷ lines)) ≡ last_number
        (x ∷ lines)
    some_there x [] = refl
    some_there x (y ∷ lines) = some_there y lines

twice : (last : Option ℕ) (n : ℕ) (o : Option ℕ) → or_last (Some n) o ≡ or_last last (or_last (Some n) o)
twice last n None = refl
twice last n (Some m) = refl

from_so : (node : Node) (next last : Option ℕ) (lines : List Line) → last_from node next last lines ≡ or_last last
    (last_gone node next lines)
from_so node next last [] = refl
from_so node next last (line ∷ lines) =
    by (has_gone node next line) (from_so node next (Some line.number) lines) (from_so node next last lines)
  where
    by : (v : Bool) → last_from node next (Some line.number) lines ≡ or_last (Some line.number)
        (last_gone node next lines)
        → last_from node next last lines ≡ or_last last (last_gone node next lines) → last_from node next
        (if v then Some line.number else last) lines ≡ or_last last
        (last_number (if v then line ∷ filter (has_gone node next) lines else filter (has_gone node next) lines))
    by true went idle = went ∙ twice last line.number (last_gone node next lines) ∙ ap (or_last last)
        (sym (last_more line (filter (has_gone node next) lines)))
    by false went idle = idle

none_or : (o : Option ℕ) → or_last None o ≡ o
none_or None = refl
none_or (Some n) = refl

pub from_is : (node : Node) (next : Option ℕ) (lines : List Line) → last_from node next None lines ≡ last_gone node
    next lines
from_is node next lines = from_so node next None lines ∙ none_or (last_gone node next lines)

filter_both : (p : Line → Bool) (xs ys : List Line) → filter p (xs ++ ys) ≡ filter p xs ++ filter p ys
filter_both p [] ys = refl
filter_both p (x ∷ xs) ys = by (p x) (filter_both p xs ys)
  where
    by : (v : Bool) → filter p (xs ++ ys) ≡ filter p xs ++ filter p ys
        → (if v then x ∷ filter p (xs ++ ys) else filter p (xs ++ ys)) ≡ (if v then x ∷ filter p xs else filter p xs)
        ++ filter p ys
    by true e = ap (λ l. x ∷ l) e
    by false e = e

append_none : (xs : List Line) → xs ++ [] ≡ xs
append_none [] = refl
append_none (x ∷ xs) = ap (λ l. x ∷ l) (append_none xs)

-- the last of two lots of lines
last_some : (xs ys : List Line) (number : ℕ) → last_number ys ≡ Some number → last_number (xs ++ ys) ≡ Some number
last_some [] ys number e = e
last_some (x ∷ []) [] number e = cc
last_some (x ∷ []) (y ∷ ys) number e = e
last_some (x ∷ z ∷ xs) ys number e = last_some (z ∷ xs) ys number e

none_there : (ys : List Line) → last_number ys ≡ None → ys ≡ []
none_there [] e = refl
none_there (y ∷ []) e = cc
none_there (y ∷ z ∷ ys) e = absurd (let none = none_there (z ∷ ys) e in cc)

pub in_lines : (node : Node) (next : Option ℕ) (setup lines : List Line) (number : ℕ) → last_gone node next lines
    ≡ Some number → last_gone node next (setup ++ lines) ≡ Some number
in_lines node next setup lines number e =
    ap last_number (filter_both (has_gone node next) setup lines) ∙ last_some (filter (has_gone node next) setup)
    (filter (has_gone node next) lines) number e

pub in_setup : (node : Node) (next : Option ℕ) (setup lines : List Line) → last_gone node next lines ≡ None
    → last_gone node next (setup ++ lines) ≡ last_gone node next setup
in_setup node next setup lines e =
    ap last_number (filter_both (has_gone node next) setup lines ∙ ap (λ l. filter (has_gone node next) setup ++ l)
    (none_there (filter (has_gone node next) lines) e) ∙ append_none (filter (has_gone node next) setup))
