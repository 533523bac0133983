-- The call that ends the use of a label: what the host makes of it, by its tables.
use Rattle.need_host.specs.Calls.{reply_now}
use Rattle.std.proofs.Common.{subst}
use Rattle.tree_calls.specs.declared.reply.Refusal.TheVariants.{NotLocked, NotOpened}
use Rattle.base_types.specs.declared.ids.Fid.{Fid}
use Rattle.host_asks.specs.Asking.{Doing}
use Rattle.host_asks.specs.Going.{GivesLabel, Goes, Settles}
use Rattle.host_asks.specs.Going.Goes.{Ends as EndsAt, Finds, IsRefused, LacksIt, Waits}
use Rattle.host_asks.specs.Going.Settles.{AnswersIt, AsksIt, GivesIt, SyncsIt}
use Rattle.host_calls.proofs.Starting.{starts_close, starts_unlock}
use Rattle.host_calls.specs.Answering.{Answered}
use Rattle.host_calls.specs.Looking.{AreUses, EndsSo, IsPathless, WalksSo, ending_of, freed_by, meant, path_look}
use Rattle.host_calls.specs.declared.looking.Verdict.{Verdict}
use Rattle.host_calls.specs.declared.looking.Verdict.TheVariants.{Asks, Does, Frees, Gives, Lists, Reads, Shows, Syncs}
use Rattle.host_calls.specs.declared.looking.Verdict.TheVariants.{Tells, Uses, Writes}
use Rattle.host_leaves.specs.Owning.{has_label}
use Rattle.host_tables.specs.Stands.{look_from}
use Rattle.host_tables.specs.Tables.{content, gives_label}
use Rattle.host_tables.specs.declared.tables.Tables.{Tables}
use Rattle.need_host.specs.Calls.Verdict.{Asks as AsksOf, Frees as FreesOf, Gives as GivesOf}
use Rattle.need_host.specs.Looks.{outcome}
use Rattle.need_host.specs.Looks.Look.{Ends}
use Rattle.need_host.specs.Questions.Question.{ChangeIn}
use Rattle.std.proofs.Common.{Bool, Err, List, None, Ok, Result, ap, false, if◌then◌else◌, not, refl, sym, true, ℕ, ◌∙◌}
use Rattle.std.proofs.Common.{◌≡◌}
use Rattle.token_types.specs.declared.token.Kind.{Kind}
use Rattle.token_types.specs.declared.token.Kind.TheVariants.{Bytes, Lock, Opening, Status}
use Rattle.tree_calls.specs.declared.reply.Refusal.{Refusal}

-- a host that has the label frees it, or gives its use back
module _ (m : Tables) (uses : AreUses m) (lock : Bool) (label : List ℕ) (has : has_label m lock label ≡ true) where
  starts : look_from m (ending_of lock label) ≡ Ends (meant m (ending_of lock label) (freed_by m lock label))
  starts = by_lock lock
    where
      by_lock : (b : Bool) → look_from m (ending_of b label) ≡ Ends (meant m (ending_of b label) (freed_by m b label))
      by_lock true = starts_unlock m label uses
      by_lock false = starts_close m label uses

  meant_so : meant m (ending_of lock label) (freed_by m lock label) ≡ (if gives_label m lock label then GivesOf
      else FreesOf)
  meant_so = ap (λ (b : Bool). meant m (ending_of lock label)
      (if not b then Err (if lock then NotLocked else NotOpened)
      else Ok (if gives_label m lock label then Gives else Frees))) has ∙ by_gives (gives_label m lock label)
    where
      by_gives : (b : Bool) → meant m (ending_of lock label) (Ok (if b then Gives else Frees))
          ≡ (if b then GivesOf else FreesOf)
      by_gives true = refl
      by_gives false = refl

  pub verdict_so : outcome (content m.cache) (look_from m (ending_of lock label))
      ≡ (if gives_label m lock label then GivesOf else FreesOf)
  verdict_so = ap (outcome (content m.cache)) starts ∙ meant_so

  -- it goes along no path
  pub no_walk : (root : Fid) (path : List (List ℕ)) → WalksSo m (ending_of lock label) root path → ⊥
  no_walk root path walks =
      let q : (if gives_label m lock label then GivesOf else FreesOf) ≡ AsksOf (ChangeIn root.fileset) =
      sym verdict_so ∙ ap (outcome (content m.cache)) (walks uses) ∙ asks lock in
      not_asked (gives_label m lock label) q
    where
      asks : (b : Bool) → outcome (content m.cache) (path_look m (ending_of b label) root path)
          ≡ AsksOf (ChangeIn root.fileset)
      asks true = refl
      asks false = refl

      not_asked : (b : Bool) → (if b then GivesOf else FreesOf) ≡ AsksOf (ChangeIn root.fileset) → ⊥
      not_asked true e = cc
      not_asked false e = cc

  -- the verdict is that
  pub verdict_is : (verdict : Result Verdict Refusal) → EndsSo m (ending_of lock label) verdict
      → meant m (ending_of lock label) verdict ≡ (if gives_label m lock label then GivesOf else FreesOf)
  verdict_is verdict so = ap (outcome (content m.cache)) (sym (so uses)) ∙ verdict_so

-- what becomes of it: it is given back for, or answered
pub data EndsOf (k : ℕ) (lock : Bool) (label : List ℕ) (old new : Doing) (gives : Bool) (answered : Bool) : Type 0
  where
    IsGiven : gives ≡ true → answered ≡ false → GivesLabel k (ending_of lock label) old new
        → EndsOf k lock label old new gives answered
    IsFreed : gives ≡ false → answered ≡ true
        → Answered k (ending_of lock label) true (Ok Frees) old.tables old.draft new.tables new.draft
        → EndsOf k lock label old new gives answered

uses_none : (m : Tables) (lock : Bool) (label : List ℕ) (fid : Fid) (kind : Kind)
    → meant m (ending_of lock label) (Ok (Uses fid kind)) ≡ FreesOf → ⊥
uses_none m lock label fid (Lock writing span) e = absurd (cc)
uses_none m lock label fid (Opening kind) e = absurd (cc)
uses_none m lock label fid (Bytes update span) e = absurd (cc)
uses_none m lock label fid (Status update) e = absurd (cc)

-- the verdict of code that frees
freed_is : (m : Tables) (lock : Bool) (label : List ℕ) (verdict : Result Verdict Refusal)
    → meant m (ending_of lock label) verdict ≡ FreesOf → verdict ≡ Ok Frees
freed_is m lock label (Err refusal) e = absurd (cc)
freed_is m lock label (Ok Does) e = absurd (cc)
freed_is m lock label (Ok (Reads fid span)) e = absurd (cc)
freed_is m lock label (Ok (Lists fid)) e = absurd (cc)
freed_is m lock label (Ok (Tells fid)) e = absurd (cc)
freed_is m lock label (Ok (Shows fid which)) e = absurd (cc)
freed_is m lock label (Ok (Writes fid from to)) e = absurd (cc)
freed_is m lock label (Ok (Uses fid kind)) e = absurd (uses_none m lock label fid kind e)
freed_is m lock label (Ok Frees) e = refl
freed_is m lock label (Ok (Syncs fid)) e = absurd (cc)
freed_is m lock label (Ok Gives) e = absurd (cc)
freed_is m lock label (Ok (Asks question)) e = absurd (cc)

module _ (k : ℕ) (lock : Bool) (label : List ℕ) (old new : Doing) (uses : AreUses old.tables)
    (has : has_label old.tables lock label ≡ true) (idle : old.tables.request ≡ None) where
  abbrev gives : Bool
  gives = gives_label old.tables lock label

  by_gives : (b : Bool) → (P : Type 0) → (b ≡ true → P) → (b ≡ false → P) → P
  by_gives true P y n = y refl
  by_gives false P y n = n refl

  settled : (verdict : Result Verdict Refusal) (answered : Bool)
      → meant old.tables (ending_of lock label) verdict ≡ (if gives then GivesOf else FreesOf)
      → ((fid : Fid) → verdict ≡ Ok (Syncs fid) → ⊥)
      → Settles k (ending_of lock label) true old new verdict answered → EndsOf k lock label old new gives answered
  settled _ _ e none (SyncsIt fid leaves) = absurd (none fid refl)
  settled _ _ e none (GivesIt it) = by_gives gives (EndsOf k lock label old new gives false)
      (λ y. IsGiven y refl it)
      (λ n. absurd (let p : GivesOf ≡ FreesOf = e ∙ ap (λ (b : Bool). if b then GivesOf else FreesOf) n in cc))
  settled _ _ e none (AsksIt question asks) = by_gives gives (EndsOf k lock label old new gives false)
      (λ y. absurd (let p = e ∙ ap (λ (b : Bool). if b then GivesOf else FreesOf) y in cc))
      (λ n. absurd (let p = e ∙ ap (λ (b : Bool). if b then GivesOf else FreesOf) n in cc))
  settled _ _ e none (AnswersIt verdict it) = by_gives gives (EndsOf k lock label old new gives true)
      (λ y. absurd (let p : meant old.tables (ending_of lock label) verdict ≡ GivesOf =
      e ∙ ap (λ (b : Bool). if b then GivesOf else FreesOf) y in
      let r = sym (ap reply_now p) ∙ it.right in cc))
      (λ n.
      let p : meant old.tables (ending_of lock label) verdict ≡ FreesOf =
      e ∙ ap (λ (b : Bool). if b then GivesOf else FreesOf) n in
      let is = freed_is old.tables lock label verdict p in
      IsFreed n refl (subst (λ (v : Result Verdict Refusal).
      Answered k (ending_of lock label) true v old.tables old.draft new.tables new.draft) is it))

  pub ends_of : (answered : Bool) → Goes k (ending_of lock label) true old new answered
      → EndsOf k lock label old new gives answered
  ends_of _ (Waits busy is) = absurd (busy idle)
  ends_of _ (EndsAt none verdict so pathless answered settles) =
      settled verdict answered (verdict_is old.tables uses lock label has verdict so)
      (λ fid e. subst IsPathless e pathless)
      settles
  ends_of _ (LacksIt none root path walks need walked asks) =
      absurd (no_walk old.tables uses lock label has root path walks)
  ends_of _ (Finds none root path walks verdict walked leads marked marks answered settles) =
      absurd (no_walk old.tables uses lock label has root path walks)
  ends_of _ (IsRefused none root path walks refusal walked marked marks settles) =
      absurd (no_walk old.tables uses lock label has root path walks)
