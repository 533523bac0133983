-- Laws that only the right words of this crate meet.
use Rattle.std.specs.Prelude.{◌≡◌, ◌⊎◌, ℕ, List, [], ◌∷◌, Result, Ok}
use Rattle.base_types.specs.declared.ids.Fid.{Fid}
use Rattle.base_types.specs.declared.user.User.{User}
use Rattle.token_types.specs.declared.token.Need.{Need}
use Rattle.token_types.specs.declared.token.Token.{Token}
use Rattle.tree_calls.specs.declared.reply.Refusal.{Refusal}
use Rattle.tree_calls.specs.declared.reply.Reply.TheVariants.{Refused as RefusedReply}
use Rattle.need_host.specs.Calls.{Verdict, judged}
use Rattle.need_host.specs.Calls.Verdict.{Replies}
use Rattle.need_host.specs.Looks.{IsCovered, IsFirstLack, Look, View, needs_of, outcome}
use Rattle.need_host.specs.Walks.{target_look, walk_look}
use Rattle.host_walk.specs.declared.sight.Stop.{Stop}
use Rattle.host_walk.specs.declared.sight.Stop.TheVariants.{Lacks, Refused}
use Rattle.host_walk.specs.Marks.{marks_of}
use Rattle.host_walk.specs.Trying.{Finds, IsStopped}

-- What becomes of a look that is tried becomes of the call that is judged by it: the first need that lacks is the
-- call's, a refusal is its reply, and what is found decides what is made of it.
pub record JudgesBy (A : Type 0) : Type 0 where
  pub lacks : (held : List Token) (view : View) (look : Look (Result A Refusal)) (judge : A → Verdict) (need : Need) →
      IsStopped held view look (Lacks need) → IsFirstLack held (needs_of view (judged look judge)) need
  pub refuses : (held : List Token) (view : View) (look : Look (Result A Refusal)) (judge : A → Verdict)
      (refusal : Refusal) → IsStopped held view look (Refused refusal) →
      IsCovered held view (judged look judge)
      × (outcome view (judged look judge) ≡ Replies (RefusedReply refusal))
  pub finds : (held : List Token) (view : View) (look : Look (Result A Refusal)) (judge : A → Verdict) (value : A) →
      Finds held view look value →
      IsCovered held view (judged look judge) × (outcome view (judged look judge) ≡ judge value)

-- an element of a list
abbrev pub IsAmong : {A : Type 0} → A → List A → Type 0
IsAmong x [] = ⊥
IsAmong x (y ∷ ys) = (x ≡ y) ⊎ IsAmong x ys

-- What is marked of a walk is what the walk needs, and at its end the further needs, where it gets there.
pub record MarksAreNeeds (view : View) (user : User) (needs : List Need) (path : List (List ℕ)) (at : Fid)
    : Type 0 where
  pub from : (need : Need) → IsAmong need (marks_of view user needs path at) →
      IsAmong need (needs_of view (target_look user at path))
      ⊎ (IsAmong need needs × ((fid : Fid) × (outcome view (walk_look user at path) ≡ Ok fid)))
  pub walked : (need : Need) → IsAmong need (needs_of view (target_look user at path)) →
      IsAmong need (marks_of view user needs path at)
  pub last : (need : Need) (fid : Fid) → outcome view (walk_look user at path) ≡ Ok fid → IsAmong need needs →
      IsAmong need (marks_of view user needs path at)

abbrev pub AllMarksAreNeeds : Type 0
AllMarksAreNeeds =
    (view : View) (user : User) (needs : List Need) (path : List (List ℕ)) (at : Fid) →
    MarksAreNeeds view user needs path at
