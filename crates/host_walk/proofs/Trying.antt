-- Looks that are tried one after the other.
use Rattle.std.proofs.Common.{◌≡◌, Bool, true, false, List, [], ◌∷◌, Result, Ok, Err, refl, ap, inl, inr, subst, sym}
use Rattle.std.proofs.Common.{◌∙◌}
use Rattle.base_types.specs.declared.ids.Fid.{Fid}
use Rattle.tree_calls.specs.declared.reply.Refusal.{Refusal}
use Rattle.tree_laws.specs.Parts.{Part, Seen}
use Rattle.token_types.specs.Covers.{Covers}
use Rattle.token_types.specs.declared.token.Need.{Need}
use Rattle.token_types.specs.declared.token.Token.{Token}
use Rattle.need_host.specs.Looks.{IsCovered, IsFirstLack, Look, View, after_check, checked, kind_for, needs_of}
use Rattle.need_host.specs.Looks.{outcome, refuse_if}
use Rattle.need_host.specs.Looks.Look.{Ends, Looks, Takes}
use Rattle.need_host.proofs.Looking.{outcome_on}
use Rattle.host_walk.specs.declared.sight.Stop.{Stop}
use Rattle.host_walk.specs.declared.sight.Stop.TheVariants.{Lacks, Refused}
use Rattle.host_cache.specs.Seen.{Kept}
use Rattle.host_walk.specs.Bytes.{TriesNeeds}
use Rattle.host_walk.specs.Trying.{Finds, IsStopped, Tries, TriesNeed}
use Rattle.host_walk.specs.Views.{held_by, view_of}

-- what becomes of the rest of a look becomes of the whole
pub record GoesOn {A : Type 0} (held : List Token) (view : View) (rest whole : Look (Result A Refusal)) : Type 0 where
  pub stops : (stop : Stop) → IsStopped held view rest stop → IsStopped held view whole stop
  pub finds : (value : A) → Finds held view rest value → Finds held view whole value

module _ {A B : Type 0} (held : List Token) (view : View) (next : A → Look (Result B Refusal)) where
  lack_on : (look : Look (Result A Refusal)) (need : Need) → IsFirstLack held (needs_of view look) need →
      IsFirstLack held (needs_of view (checked look next)) need
  lack_on (Ends result) need l = elim l [ ]
  lack_on (Looks fid part after) need (inl l) = inl l
  lack_on (Looks fid part after) need (inr (c, l)) = inr (c, lack_on (after (view fid part)) need l)
  lack_on (Takes n after) need (inl l) = inl l
  lack_on (Takes n after) need (inr (c, l)) = inr (c, lack_on after need l)

  -- once the first is covered, what is left is the next
  lack_after : (look : Look (Result A Refusal)) (value : A) (need : Need) → IsCovered held view look →
      outcome view look ≡ Ok value → IsFirstLack held (needs_of view (next value)) need →
      IsFirstLack held (needs_of view (checked look next)) need
  lack_after (Ends result) value need c e l =
      subst (λ (r : Result A Refusal). IsFirstLack held (needs_of view (after_check next r)) need) (sym e) l
  lack_after (Looks fid part after) value need c e l =
      inr (c.0, lack_after (after (view fid part)) value need c.1 e l)
  lack_after (Takes n after) value need c e l = inr (c.0, lack_after after value need c.1 e l)

  covered_on : (look : Look (Result A Refusal)) (result : Result A Refusal) → IsCovered held view look →
      outcome view look ≡ result → IsCovered held view (after_check next result) →
      IsCovered held view (checked look next)
  covered_on (Ends r) result c e k =
      subst (λ (r : Result A Refusal). IsCovered held view (after_check next r)) (sym e) k
  covered_on (Looks fid part after) result c e k = (c.0, covered_on (after (view fid part)) result c.1 e k)
  covered_on (Takes n after) result c e k = (c.0, covered_on after result c.1 e k)

  outcome_is : (look : Look (Result A Refusal)) (result : Result A Refusal) → outcome view look ≡ result →
      outcome view (checked look next) ≡ outcome view (after_check next result)
  outcome_is look result e =
      outcome_on view look (after_check next) ∙ ap (λ (r : Result A Refusal). outcome view (after_check next r)) e

  -- where the first stops, both do
  pub stops_on : (look : Look (Result A Refusal)) (stop : Stop) → IsStopped held view look stop →
      IsStopped held view (checked look next) stop
  stops_on look (Lacks need) l = lack_on look need l
  stops_on look (Refused refusal) t =
      (covered_on look (Err refusal) t.0 t.1 tt, outcome_is look (Err refusal) t.1)

  -- where the first finds something, the next goes on with it
  pub checked_on : (look : Look (Result A Refusal)) (value : A) → Finds held view look value →
      GoesOn held view (next value) (checked look next)
  checked_on look value found = record {
    stops = stopped;
    finds = λ v f. record {
      covered = covered_on look (Ok value) found.covered found.ends f.covered;
      ends = outcome_is look (Ok value) found.ends ∙ f.ends;
    };
  }
    where
      stopped : (stop : Stop) → IsStopped held view (next value) stop → IsStopped held view (checked look next) stop
      stopped (Lacks need) l = lack_after look value need found.covered found.ends l
      stopped (Refused refusal) t = (
        covered_on look (Ok value) found.covered found.ends t.0,
        outcome_is look (Ok value) found.ends ∙ t.1,
      )

module _ {A : Type 0} (held : List Token) (view : View) where
  pub goes_by : (a b c : Look (Result A Refusal)) → GoesOn held view a b → GoesOn held view b c → GoesOn held view a c
  goes_by a b c h k =
      record { stops = λ stop s. k.stops stop (h.stops stop s); finds = λ v f. k.finds v (h.finds v f) }

  pub goes_self : (a : Look (Result A Refusal)) → GoesOn held view a a
  goes_self a = record { stops = λ stop s. s; finds = λ v f. f }

  pub goes_same : (a b : Look (Result A Refusal)) → a ≡ b → GoesOn held view a b
  goes_same a b e = subst (GoesOn held view a) e (goes_self a)

  -- a part that is covered
  pub looks_on : (fid : Fid) (part : Part) (next : Seen part → Look (Result A Refusal)) →
      Covers held (record { fid = fid; kind = kind_for part }) →
      GoesOn held view (next (view fid part)) (Looks fid part next)
  looks_on fid part next covered = record {
    stops = stopped;
    finds = λ v f. record { covered = (covered, f.covered); ends = f.ends };
  }
    where
      stopped : (stop : Stop) → IsStopped held view (next (view fid part)) stop →
          IsStopped held view (Looks fid part next) stop
      stopped (Lacks need) l = inr (covered, l)
      stopped (Refused refusal) t = ((covered, t.0), t.1)

  pub takes_on : (need : Need) (next : Look (Result A Refusal)) → Covers held need →
      GoesOn held view next (Takes need next)
  takes_on need next covered = record {
    stops = stopped;
    finds = λ v f. record { covered = (covered, f.covered); ends = f.ends };
  }
    where
      stopped : (stop : Stop) → IsStopped held view next stop → IsStopped held view (Takes need next) stop
      stopped (Lacks other) l = inr (covered, l)
      stopped (Refused refusal) t = ((covered, t.0), t.1)

  -- a check that passes, and one that refuses
  pub passes_on : (b : Bool) (refusal : Refusal) (next : Look (Result A Refusal)) → b ≡ false →
      GoesOn held view next (refuse_if b refusal next)
  passes_on b refusal next e = goes_same next (refuse_if b refusal next) (sym (ap (λ t. refuse_if t refusal next) e))

  pub refused_by : (b : Bool) (refusal : Refusal) (next : Look (Result A Refusal)) → b ≡ true →
      IsStopped held view (refuse_if b refusal next) (Refused refusal)
  refused_by b refusal next e =
      subst (λ t. IsStopped held view (refuse_if t refusal next) (Refused refusal)) (sym e) (tt, refl)

  -- a look that ends
  pub ends_with : (result : Result A Refusal) (value : A) → result ≡ Ok value → Finds held view (Ends result) value
  ends_with result value e = record { covered = tt; ends = e }

  pub ends_refused : (result : Result A Refusal) (refusal : Refusal) → result ≡ Err refusal →
      IsStopped held view (Ends result) (Refused refusal)
  ends_refused result refusal e = (tt, e)

  -- what isn't covered is what lacks
  pub lacks_part : (fid : Fid) (part : Part) (next : Seen part → Look (Result A Refusal)) (stop : Stop) →
      (Covers held (record { fid = fid; kind = kind_for part }) → ⊥)
      × (stop ≡ Lacks (record { fid = fid; kind = kind_for part })) →
      IsStopped held view (Looks fid part next) stop
  lacks_part fid part next stop (lack, e) =
      subst (IsStopped held view (Looks fid part next)) (sym e) (inl (lack, refl))

  pub lacks_need : (need : Need) (next : Look (Result A Refusal)) (stop : Stop) →
      (Covers held need → ⊥) × (stop ≡ Lacks need) → IsStopped held view (Takes need next) stop
  lacks_need need next stop (lack, e) = subst (IsStopped held view (Takes need next)) (sym e) (inl (lack, refl))

-- what becomes of the rest, whatever it is
pub tries_on : {A B : Type 0} (kept : Kept) (rest whole : Look (Result A Refusal)) (meant : B → A) →
    GoesOn (held_by kept) (view_of kept) rest whole → (result : Result B Stop) → Tries kept rest meant result →
    Tries kept whole meant result
tries_on kept rest whole meant on (Ok found) h = on.finds (meant found) h
tries_on kept rest whole meant on (Err stop) h = on.stops stop h

-- a need, alone and behind another
pub tries_one : {B : Type 0} (kept : Kept) (need : Need) (result : Result B Stop) → TriesNeed kept need result →
    TriesNeeds (held_by kept) (need ∷ []) result
tries_one kept need (Ok found) h = (h, tt)
tries_one kept need (Err stop) h = (need, inl (h.0, refl), h.1)

pub tries_first : (B : Type 0) (kept : Kept) (first second : Need) (stop : Stop) →
    (Covers (held_by kept) first → ⊥) × (stop ≡ Lacks first) →
    TriesNeeds {B = B} (held_by kept) (first ∷ second ∷ []) (Err stop)
tries_first B kept first second stop h = (first, inl (h.0, refl), h.1)

pub tries_second : {B : Type 0} (kept : Kept) (first second : Need) → Covers (held_by kept) first →
    (result : Result B Stop) → TriesNeed kept second result → TriesNeeds (held_by kept) (first ∷ second ∷ []) result
tries_second kept first second covered (Ok found) h = (covered, (h, tt))
tries_second kept first second covered (Err stop) h = (second, inr (covered, inl (h.0, refl)), h.1)
