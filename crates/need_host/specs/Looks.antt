-- What a call looks at, part by part, each chosen by what was seen before, and the tokens that it needs thereby.
use Rattle.std.specs.Prelude.{◌≡◌, ◌⊎◌, ℕ, ◌+◌, ◌*◌, ◌/◌, Bool, true, false, List, [], ◌∷◌, Result, Ok, Err}
use Rattle.base_types.specs.declared.ids.Fid.{Fid}
use Rattle.base_types.specs.declared.limits.TheConstants.{TOKEN_BYTES}
use Rattle.base_types.specs.declared.span.Span.{Span}
use Rattle.tree_calls.specs.declared.reply.Refusal.{Refusal}
use Rattle.tree_objects.specs.Spans.{span_between, whole}
use Rattle.tree_answers.specs.declared.tree.Tree.{Tree}
use Rattle.tree_laws.specs.Parts.{Part, Seen, present, cell_at}
use Rattle.tree_laws.specs.Parts.Part.{ByteAt, Size, Traits, Entries}
use Rattle.token_types.specs.declared.token.Kind.{Kind}
use Rattle.token_types.specs.declared.token.Kind.TheVariants.{Bytes, Status}
use Rattle.token_types.specs.declared.token.Need.{Need}
use Rattle.token_types.specs.declared.token.Token.{Token}
use Rattle.token_types.specs.Covers.{Covers}

-- what somebody sees of each object
abbrev pub View : Type 0
View = (fid : Fid) → (part : Part) → Seen part

-- what readers see of a tree, and what is kept of it
abbrev pub tree_view : Tree → View
tree_view tree fid part = present (cell_at tree fid part)

abbrev pub kept_view : Tree → View
kept_view tree fid part = (cell_at tree fid part).kept

-- A look ends with an outcome, or looks at a part and goes on with what it saw. For some outcomes a token is needed
-- though nothing is looked at.
pub data Look (R : Type 0) : Type 0 where
  Ends : R → Look R
  Looks : Fid → (part : Part) → (Seen part → Look R) → Look R
  Takes : Need → Look R → Look R

-- how it ends where this is seen
abbrev pub outcome : {R : Type 0} → View → Look R → R
outcome view (Ends result) = result
outcome view (Looks fid part next) = outcome view (next (view fid part))
outcome view (Takes need next) = outcome view next

-- a look after another
abbrev pub look_on : {A B : Type 0} → Look A → (A → Look B) → Look B
look_on (Ends result) next = next result
look_on (Looks fid part after) next = Looks fid part (λ seen. look_on (after seen) next)
look_on (Takes need after) next = Takes need (look_on after next)

abbrev pub after_check : {A B : Type 0} → (A → Look (Result B Refusal)) → Result A Refusal → Look (Result B Refusal)
after_check next (Ok value) = next value
after_check next (Err refusal) = Ends (Err refusal)

-- a look after one that may refuse
abbrev pub checked : {A B : Type 0} → Look (Result A Refusal) → (A → Look (Result B Refusal)) → Look (Result B Refusal)
checked look next = look_on look (after_check next)

-- a check that refuses, or else the next look
abbrev pub refuse_if : {A : Type 0} → Bool → Refusal → Look (Result A Refusal) → Look (Result A Refusal)
refuse_if true refusal next = Ends (Err refusal)
refuse_if false refusal next = next

-- the bytes from a position on and before another, in whole blocks of tokens
abbrev pub rounded : ℕ → ℕ → Span
rounded from to = span_between (from / TOKEN_BYTES * TOKEN_BYTES) ((to + 1023) / TOKEN_BYTES * TOKEN_BYTES)

-- the kind of token under which a part is seen
abbrev pub kind_for : Part → Kind
kind_for (ByteAt at) = Bytes false (rounded at (at + 1))
kind_for Size = Status false
kind_for Traits = Status false
kind_for Entries = Bytes false whole

-- the needs of a look where this is seen
abbrev pub needs_of : {R : Type 0} → View → Look R → List Need
needs_of view (Ends result) = []
needs_of view (Looks fid part next) = record { fid = fid; kind = kind_for part } ∷ needs_of view (next (view fid part))
needs_of view (Takes need next) = need ∷ needs_of view next

-- tokens cover them all
abbrev pub CoverAll : List Token → List Need → Type 0
CoverAll held [] = Unit {0}
CoverAll held (need ∷ needs) = Covers held need × CoverAll held needs

-- the look is covered where this is seen
abbrev pub IsCovered : {R : Type 0} → List Token → View → Look R → Type 0
IsCovered held view look = CoverAll held (needs_of view look)

-- this is the first of some needs that tokens don't cover
abbrev pub IsFirstLack : List Token → List Need → Need → Type 0
IsFirstLack held [] need = ⊥
IsFirstLack held (first ∷ needs) need =
    ((Covers held first → ⊥) × (first ≡ need)) ⊎ (Covers held first × IsFirstLack held needs need)
