-- What becomes of a look that is tried on a cache: it lacks a token, it is refused, or it finds something.
use Rattle.std.specs.Prelude.{◌≡◌, List, Result, Ok, Err, MatchResult, false, true}
use Rattle.base_types.specs.declared.ids.Fid.{Fid}
use Rattle.tree_calls.specs.declared.reply.Refusal.{Refusal}
use Rattle.token_types.specs.Covers.{Covers}
use Rattle.token_types.specs.declared.token.Kind.TheVariants.{Bytes, Status}
use Rattle.token_types.specs.declared.token.Need.{Need}
use Rattle.token_types.specs.declared.token.Token.{Token}
use Rattle.tree_objects.specs.Spans.{whole}
use Rattle.need_host.specs.Looks.{IsCovered, IsFirstLack, Look, View, needs_of, outcome}
use Rattle.host_cache.specs.Seen.{Kept}
use Rattle.host_walk.specs.declared.sight.Stop.{Stop}
use Rattle.host_walk.specs.declared.sight.Stop.TheVariants.{Lacks, Refused}
use Rattle.host_walk.specs.Views.{held_by, view_of}

-- it stops: at the first need that the tokens don't cover, or covered, at a refusal
abbrev pub IsStopped : {A : Type 0} → List Token → View → Look (Result A Refusal) → Stop → Type 0
IsStopped held view look (Lacks need) = IsFirstLack held (needs_of view look) need
IsStopped held view look (Refused refusal) = IsCovered held view look × (outcome view look ≡ Err refusal)

-- it is covered, and ends with this
pub record Finds {A : Type 0} (held : List Token) (view : View) (look : Look (Result A Refusal)) (value : A)
    : Type 0 where
  pub covered : IsCovered held view look
  pub ends : outcome view look ≡ Ok value

-- what becomes of a look on a cache, where what is found stands for this
abbrev pub Tries : {A B : Type 0} → Kept → Look (Result A Refusal) → (B → A) → Result B Stop → Type 0
Tries kept look meant result =
    MatchResult result (λ found. Finds (held_by kept) (view_of kept) look (meant found))
    (IsStopped (held_by kept) (view_of kept) look)

-- a need is covered, or it is what lacks
abbrev pub TriesNeed : {B : Type 0} → Kept → Need → Result B Stop → Type 0
TriesNeed kept need result =
    MatchResult result (λ _. Covers (held_by kept) need)
    (λ stop. (Covers (held_by kept) need → ⊥) × (stop ≡ Lacks need))

-- to see the status of an object, or the entries of a directory
abbrev pub status_need : Fid → Need
status_need fid = record { fid = fid; kind = Status false }

abbrev pub whole_need : Fid → Need
whole_need fid = record { fid = fid; kind = Bytes false whole }

abbrev pub length_need : Fid → Need
length_need fid = record { fid = fid; kind = Status true }
