-- A call whose turn it is: what is made of it where it is answered, by the verdict on it.
use Rattle.base_types.specs.declared.ids.Fid.{Fid}
use Rattle.base_types.specs.declared.ids.FilesetId.{FilesetId}
use Rattle.base_types.specs.declared.ids.Node.TheVariants.{Host}
use Rattle.host_asks.specs.Asking.{Doing, doing}
use Rattle.host_asks.specs.Going.{Goes, MarksWhere, Settles}
use Rattle.host_asks.specs.Going.Goes.{Ends, Finds, IsRefused, LacksIt, Waits}
use Rattle.host_asks.specs.Going.Settles.{AnswersIt, AsksIt, GivesIt, SyncsIt}
use Rattle.host_cache.specs.Seen.{Seen, seen}
use Rattle.host_calls.specs.Answering.{Answered, MarksUsed, last_needs, way_of}
use Rattle.host_calls.specs.Looking.{AreUses, EndsSo, IsPathless, IsVerdictOf, Walked, WalksSo, WritesTo, bytes_of}
use Rattle.host_calls.specs.Looking.{is_settled, meant, path_look}
use Rattle.host_calls.specs.declared.looking.Verdict.{Verdict}
use Rattle.host_calls.specs.declared.looking.Verdict.TheVariants.{Asks, Does, Frees, Gives, Lists, Reads, Shows}
use Rattle.host_calls.specs.declared.looking.Verdict.TheVariants.{Syncs, Tells, Uses, Writes}
use Rattle.host_gives.specs.Giving.{IsSound as IsSoundGives}
use Rattle.host_labels.specs.Labels.{IsSound as IsSoundUses}
use Rattle.host_leaves.specs.Sending.{sending_due}
use Rattle.host_manager.proofs.CallAnswers.{IsMarked, IsTold, answered_turn, meant_same}
use Rattle.host_manager.proofs.Helped.{Helped, LeadsBy, all_alike}
use Rattle.host_manager.proofs.Ordered.{marked_held}
use Rattle.host_manager.proofs.Running.{uses_are}
use Rattle.host_manager.proofs.ComesOut.{comes_out}
use Rattle.host_manager.proofs.Turns.{IsTurn, at_turn, turn_draft}
use Rattle.host_manager.proofs.Written.{IsWritten, write_told}
use Rattle.host_tables.specs.Drafts.{step_of}
use Rattle.host_tables.specs.Half.{learning}
use Rattle.host_manager.specs.Running.{RunsOn}
use Rattle.host_tables.specs.Stands.{look_from, needs_from}
use Rattle.host_tables.specs.Tables.{content, held_of}
use Rattle.host_tables.specs.Using.{used_all}
use Rattle.host_tables.specs.declared.draft.Draft.{Draft}
use Rattle.host_tables.specs.declared.tables.Tables.{Tables}
use Rattle.host_walk.specs.Marks.{marks_of}
use Rattle.host_walk.specs.declared.sight.Stop.{Stop}
use Rattle.host_walk.specs.declared.sight.Stop.TheVariants.{Refused}
use Rattle.need_host.specs.Calls.{Verdict as Meant, reply_now}
use Rattle.need_host.specs.Calls.Verdict.{Writes as WritesOf}
use Rattle.need_host.specs.Looks.{CoverAll, IsCovered, Look, needs_of, outcome}
use Rattle.need_host.specs.Looks.Look.{Ends as EndsOf}
use Rattle.run_rules.specs.Views.{nature_told}
use Rattle.run_rules.specs.declared.step.Asked.{Asked}
use Rattle.run_rules.specs.declared.step.Cause.{Cause}
use Rattle.run_rules.specs.declared.step.Step.{Step}
use Rattle.script_lines.specs.declared.script.Script.{Script}
use Rattle.std.proofs.Common.{Bool, Err, List, Ok, Result, Some, [], ap, refl, subst, sym, true, unwrap_or, ℕ, ◌↔◌}
use Rattle.std.proofs.Common.{◌∙◌, ◌∷◌, ◌≡◌}
use Rattle.std.specs.Option.{option_map, option_map_or}
use Rattle.token_types.specs.declared.token.Need.{Need}
use Rattle.token_types.specs.declared.token.Token.{Token}
use Rattle.tree_calls.specs.declared.call.Call.{Call}
use Rattle.tree_calls.specs.declared.call.Call.TheVariants.{Write}
use Rattle.tree_calls.specs.declared.reply.Refusal.{Refusal}
use Rattle.tree_calls.specs.declared.reply.Reply.{Reply}
use Rattle.tree_laws.specs.Parts.{Part}
use Rattle.tree_laws.specs.Parts.Part.{ByteAt, Entries, Size, Traits}

-- an answered verdict is settled, so that what it used is marked
settled_marks : (m marked : Tables) (call : Call) (root : Fid) (path : List (List ℕ)) (reply : Reply)
    (v : Result Verdict Refusal) → reply_now (meant marked call v) ≡ Some reply
    → MarksWhere (is_settled v) m call root path v marked → MarksUsed m call root path v marked
settled_marks m marked call root path reply (Err refusal) e marks = marks
settled_marks m marked call root path reply (Ok Does) e marks = marks
settled_marks m marked call root path reply (Ok (Reads fid span)) e marks = marks
settled_marks m marked call root path reply (Ok (Lists fid)) e marks = marks
settled_marks m marked call root path reply (Ok (Tells fid)) e marks = marks
settled_marks m marked call root path reply (Ok (Shows fid which)) e marks = marks
settled_marks m marked call root path reply (Ok (Writes fid from to)) e marks = marks
settled_marks m marked call root path reply (Ok (Uses fid kind)) e marks = marks
settled_marks m marked call root path reply (Ok Frees) e marks = marks
settled_marks m marked call root path reply (Ok (Syncs fid)) e marks = absurd (cc)
settled_marks m marked call root path reply (Ok Gives) e marks = absurd (cc)
settled_marks m marked call root path reply (Ok (Asks question)) e marks = absurd (cc)

-- what ends before its path writes and uses nothing
told_early : (m : Tables) (call : Call) (v : Result Verdict Refusal) → IsPathless v → IsTold m call v
told_early m call (Ok (Writes fid from to)) none = elim none [ ]
told_early m call (Ok (Uses fid kind)) none = elim none [ ]
told_early m call (Ok Does) none = tt
told_early m call (Ok (Reads fid span)) none = tt
told_early m call (Ok (Lists fid)) none = tt
told_early m call (Ok (Tells fid)) none = tt
told_early m call (Ok (Shows fid which)) none = tt
told_early m call (Ok Frees) none = tt
told_early m call (Ok (Syncs fid)) none = tt
told_early m call (Ok Gives) none = tt
told_early m call (Ok (Asks question)) none = tt
told_early m call (Err refusal) none = tt

-- what is behind a path is the call's
told_behind : (m : Tables) (call : Call) (root : Fid) (path : List (List ℕ)) (v : Result Verdict Refusal)
    → LeadsBy m call root path v → IsCovered (held_of m) (content m.cache) (path_look m call root path)
    → outcome (content m.cache) (path_look m call root path) ≡ meant m call v → IsTold m call v
told_behind m call root path (Ok (Writes fid from to)) leads covered out = by_call call leads covered out
  where
    by_call : (c : Call) → WritesTo c from to → IsCovered (held_of m) (content m.cache) (path_look m c root path)
        → outcome (content m.cache) (path_look m c root path) ≡ WritesOf fid from (bytes_of c)
        → WritesTo c from to × IsWritten m fid from (bytes_of c)
    by_call (Write place at bytes) w covered out = (
      w,
      subst (λ (f : ℕ). IsWritten m fid f bytes) w.0
          (write_told m place at bytes root path fid covered (out ∙ ap (λ f. WritesOf fid f bytes) (sym w.0))),
    )
    by_call c w covered out = elim w [ ]
told_behind m call root path (Ok (Uses fid kind)) leads covered out = leads
told_behind m call root path (Ok Does) leads covered out = tt
told_behind m call root path (Ok (Reads fid span)) leads covered out = tt
told_behind m call root path (Ok (Lists fid)) leads covered out = tt
told_behind m call root path (Ok (Tells fid)) leads covered out = tt
told_behind m call root path (Ok (Shows fid which)) leads covered out = tt
told_behind m call root path (Ok Frees) leads covered out = tt
told_behind m call root path (Ok (Syncs fid)) leads covered out = tt
told_behind m call root path (Ok Gives) leads covered out = tt
told_behind m call root path (Ok (Asks question)) leads covered out = tt
told_behind m call root path (Err refusal) leads covered out = tt

module _ (script : Script) (old m : Tables) (past : List Step) (cause : Cause) (came : List Token)
    (dues : List FilesetId) (c : Asked) (first : Bool) (turn : IsTurn script old m past cause came dues c first)
    (sound_m : IsSoundGives m.gives) (sound : IsSoundUses m.uses) where
  abbrev call : Call
  call = c.call

  abbrev k : ℕ
  k = c.k

  abbrev begun : Tables
  begun = at_turn m first

  abbrev draft_0 : Draft
  draft_0 = turn_draft came dues

  abbrev Goal : Doing → Type 0
  Goal gone = RunsOn script old gone.tables past (step_of (Host m.host) cause (sending_due gone.tables gone.draft))

  uses_m : AreUses m
  uses_m = uses_are script m (learning m.host cause came ∷ past) turn.learnt

  uses_b : AreUses begun
  uses_b = record { labels = uses_m.labels; ending = uses_m.ending }

  -- # What ends before any path
  module _ (v : Result Verdict Refusal) (so : EndsSo begun call v) (early : IsPathless v) where
    look_is : look_from m call ≡ EndsOf (meant m call v)
    look_is = so uses_b

    needs_are : needs_from m call ≡ []
    needs_are = ap (needs_of (content m.cache)) look_is

    pub ends_marked : IsMarked m first call v begun
    ends_marked = record {
      needs = [];
      tables = refl;
      told = refl;
      alike = λ t. (
        (λ h. absurd h.1),
        λ h. absurd (subst (λ (ns : List Need). Helped ns t) needs_are h).1,
      );
      covered = subst (CoverAll (held_of m)) (sym needs_are) tt;
      verdict_is = ap (outcome (content m.cache)) look_is;
      own = told_early m call v early;
    }

  -- # What comes behind a path
  module _ (root : Fid) (path : List (List ℕ)) (walks : WalksSo begun call root path) (made : Result Verdict Stop)
      (walked : Walked begun call root path made) (v : Result Verdict Refusal) (is : IsVerdictOf made v)
      (leads : LeadsBy m call root path v) (marked : Tables) (marks : MarksUsed begun call root path v marked)
      (reply : Reply) (says : reply_now (meant marked call v) ≡ Some reply) where
    look_w : look_from m call ≡ path_look m call root path
    look_w = walks uses_b

    comes : IsCovered (held_of m) (content m.cache) (path_look m call root path)
        × (outcome (content m.cache) (path_look m call root path) ≡ meant m call v)
    comes = comes_out m call root path turn.tidy.sizes made walked v is

    abbrev needs : List Need
    needs = marks_of (content m.cache) m.user (last_needs m v) (way_of m call root path) root

    told : seen marked.cache ≡ record (seen m.cache) { held = used_all needs m.cache.held }
    told = marks.shown ∙ marked_held needs (seen m.cache)

    seen_w : (fid : Fid) (part : Part) → content marked.cache fid part ≡ content m.cache fid part
    seen_w fid (ByteAt at) = ap (λ (x : Seen). unwrap_or (x.bytes fid at) 0) told
    seen_w fid Size = ap (λ (x : Seen). option_map_or (λ status. status.length) (x.status fid) 0) told
    seen_w fid Traits = ap (λ (x : Seen). option_map nature_told (x.status fid)) told
    seen_w fid Entries = ap (λ (x : Seen). x.entries fid) told

    says_m : reply_now (meant m call v) ≡ Some reply
    says_m = sym (ap reply_now (meant_same m marked call v seen_w (ap (λ (x : Tables). x.user) marks.tables))) ∙ says

    pub walks_marked : IsMarked m first call v marked
    walks_marked = record {
      needs = needs;
      tables = marks.tables;
      told = told;
      alike = λ t. subst (λ (l : Look Meant). Helped needs t ↔ Helped (needs_of (content m.cache) l) t) (sym look_w)
          (all_alike m call root path v leads comes.1 reply says_m t);
      covered = subst (IsCovered (held_of m) (content m.cache)) (sym look_w) comes.0;
      verdict_is = ap (outcome (content m.cache)) look_w ∙ comes.1;
      own = told_behind m call root path v leads comes.0 comes.1;
    }

  -- # Where it is answered
  module _ (frees : (new : Tables) (after : Draft) → EndsSo begun call (Ok Frees)
      → Answered k call first (Ok Frees) begun draft_0 new after → Goal (doing new after)) where
    ends_answered : (v : Result Verdict Refusal) → EndsSo begun call v → IsPathless v → (new : Tables) (after : Draft)
        → Answered k call first v begun draft_0 new after → Goal (doing new after)
    ends_answered v so early new after answered = by_verdict v refl
      where
        other : (v ≡ Ok Frees → ⊥) → Goal (doing new after)
        other none = answered_turn script old m past cause came dues c first turn sound_m sound v begun
            (ends_marked v so early)
            uses_m (λ e n o r f p q. absurd (none e)) new after answered

        by_verdict : (x : Result Verdict Refusal) → v ≡ x → Goal (doing new after)
        by_verdict (Ok Frees) e = frees new after (subst (EndsSo begun call) e so)
            (subst (λ (w : Result Verdict Refusal). Answered k call first w begun draft_0 new after) e answered)
        by_verdict (Ok Does) e = other (λ q. let p = sym e ∙ q in cc)
        by_verdict (Ok (Reads fid span)) e = other (λ q. let p = sym e ∙ q in cc)
        by_verdict (Ok (Lists fid)) e = other (λ q. let p = sym e ∙ q in cc)
        by_verdict (Ok (Tells fid)) e = other (λ q. let p = sym e ∙ q in cc)
        by_verdict (Ok (Shows fid which)) e = other (λ q. let p = sym e ∙ q in cc)
        by_verdict (Ok (Writes fid from to)) e = other (λ q. let p = sym e ∙ q in cc)
        by_verdict (Ok (Uses fid kind)) e = other (λ q. let p = sym e ∙ q in cc)
        by_verdict (Ok (Syncs fid)) e = other (λ q. let p = sym e ∙ q in cc)
        by_verdict (Ok Gives) e = other (λ q. let p = sym e ∙ q in cc)
        by_verdict (Ok (Asks question)) e = other (λ q. let p = sym e ∙ q in cc)
        by_verdict (Err refusal) e = other (λ q. let p = sym e ∙ q in cc)

    walks_answered : (root : Fid) (path : List (List ℕ)) → WalksSo begun call root path
        → (made : Result Verdict Stop) → Walked begun call root path made → (v : Result Verdict Refusal)
        → IsVerdictOf made v → LeadsBy m call root path v → (marked : Tables)
        → MarksWhere (is_settled v) begun call root path v marked → (new : Tables) (after : Draft)
        → Answered k call first v marked draft_0 new after → Goal (doing new after)
    walks_answered root path walks made walked v is leads marked marks new after answered =
        answered_turn script old m past cause came dues c first turn sound_m sound v marked
        (walks_marked root path walks made walked v is leads marked
        (settled_marks begun marked call root path answered.reply v answered.right marks) answered.reply answered.right)
        uses_m (λ e n o r f p q. elim (subst (LeadsBy m call root path) e leads) [ ]) new after answered

    -- an answer is one by its verdict
    settles_answer : (v : Result Verdict Refusal) (old new : Doing) (b : Bool) → b ≡ true
        → Settles k call first old new v b → Answered k call first v old.tables old.draft new.tables new.draft
    settles_answer _ old new _ e (SyncsIt fid leaves) = absurd (cc)
    settles_answer _ old new _ e (GivesIt gives) = absurd (cc)
    settles_answer _ old new _ e (AsksIt question asks) = absurd (cc)
    settles_answer _ old new _ e (AnswersIt verdict answered) = answered

    pub goes_answered : (gone : Doing) (b : Bool) → b ≡ true → Goes k call first (doing begun draft_0) gone b → Goal
        gone
    goes_answered gone _ e (Waits busy is) = absurd (cc)
    goes_answered gone _ e (Ends idle v so early answered settles) =
        ends_answered v so early gone.tables gone.draft
        (settles_answer v (doing begun draft_0) gone answered e settles)
    goes_answered gone _ e (LacksIt idle root path walks need lack asks) = absurd (cc)
    goes_answered gone _ e (Finds idle root path walks v walked leads marked marks answered settles) =
        walks_answered root path walks (Ok v) walked (Ok v) refl leads marked marks gone.tables gone.draft
        (settles_answer (Ok v) (doing marked draft_0) gone answered e settles)
    goes_answered gone _ e (IsRefused idle root path walks refusal walked marked marks settles) =
        walks_answered root path walks (Err (Refused refusal)) walked (Err refusal) refl tt marked marks gone.tables
        gone.draft (settles_answer (Err refusal) (doing marked draft_0) gone true refl settles)
