-- A call that only tells of an object is answered at once, without memory: the step of the next line is right.
use Rattle.base_types.specs.Outcomes.{either}
use Rattle.base_types.specs.declared.ids.Fid.{Fid}
use Rattle.base_types.specs.declared.ids.Node.TheVariants.{Host}
use Rattle.host_cache.specs.Seen.{seen}
use Rattle.host_calls.specs.Answering.{last_needs, way_of}
use Rattle.host_calls.specs.Looking.{AreSized, AreUses, LeadsSo, OnlyTells, meant, path_look}
use Rattle.host_calls.specs.declared.looking.Verdict.{Verdict}
use Rattle.host_gives.specs.Giving.{IsSound as IsSoundGives}
use Rattle.host_manager.proofs.AnsweredDue.{reply_due}
use Rattle.host_manager.proofs.ComesOut.{comes_out}
use Rattle.host_manager.proofs.GoesDue.{by_line}
use Rattle.host_manager.proofs.Helped.{Helped, LeadsBy, tells_alike}
use Rattle.host_manager.proofs.Ordered.{marked_held}
use Rattle.host_manager.proofs.Running.{uses_are}
use Rattle.host_manager.proofs.TurnOf.{line_turn}
use Rattle.host_manager.proofs.Turns.{IsTurn}
use Rattle.host_manager.specs.Spoken.{IsFree as IsFreePair, SpokenRight, answered_step}
use Rattle.host_tables.specs.AnswerSteps.{AnsweredBy}
use Rattle.host_tables.specs.AtOnce.{IsFree, IsNextCall}
use Rattle.host_manager.specs.Running.{IsRunning, RunsOn}
use Rattle.host_tables.specs.Stands.{look_from, needs_from, verdict_from}
use Rattle.host_tables.specs.Tables.{content, held_of}
use Rattle.host_tables.specs.Using.{used_all}
use Rattle.host_tables.specs.declared.tables.Tables.{Tables}
use Rattle.host_tells.specs.Spoken.{SpeaksAtOnce, StaysSilent}
use Rattle.host_walk.proofs.Blocks.{outcome_end}
use Rattle.host_walk.specs.Marks.{marks_of}
use Rattle.message_types.specs.Soundness.{IsCall}
use Rattle.need_host.specs.Calls.{Verdict as Meant, access_look, entries_for, facts_for, judged, list_for, list_look}
use Rattle.need_host.specs.Calls.{read_from, read_look, reply_now, stat_look}
use Rattle.need_host.specs.Calls.Verdict.{Replies}
use Rattle.need_host.specs.Looks.{IsCovered, Look, View, checked, needs_of, outcome}
use Rattle.need_host.specs.Walks.{permitted_look, target_look}
use Rattle.run_rules.specs.HostDue.{HostDue}
use Rattle.run_rules.specs.Steps.{IsNextLine, lines_of}
use Rattle.run_rules.specs.declared.step.Asked.{Asked}
use Rattle.run_rules.specs.declared.step.Cause.TheVariants.{Line as LineOf}
use Rattle.run_rules.specs.declared.step.Step.{Step}
use Rattle.script_lines.specs.declared.script.Deed.TheVariants.{Call as MakesCall}
use Rattle.script_lines.specs.declared.script.Line.{Line}
use Rattle.script_lines.specs.declared.script.Script.{Script}
use Rattle.std.proofs.Common.{Err, List, MatchOption, None, Ok, Option, Result, Some, [], ap, refl, subst, sym, true}
use Rattle.std.proofs.Common.{ℕ, ◌+◌, ◌↔◌, ◌∙◌, ◌≡◌}
use Rattle.token_types.specs.declared.token.Need.{Need}
use Rattle.token_types.specs.declared.token.Token.{Token}
use Rattle.tree_calls.specs.declared.call.Call.{Call}
use Rattle.tree_calls.specs.declared.call.Call.TheVariants.{GetAcl, List as ListNames, Read, Stat}
use Rattle.tree_calls.specs.declared.reply.Refusal.{Refusal}
use Rattle.tree_calls.specs.declared.reply.Reply.{Reply}
use Rattle.tree_calls.specs.declared.reply.Reply.TheVariants.{Access, Bytes, Facts, Names, Refused as IsRefused}
use Rattle.tree_filesets.specs.Rights.{read_right}
use Rattle.tree_objects.specs.Entries.{names_of}
use Rattle.host_manager.proofs.TurnAnswers as answers
use Rattle.host_manager.proofs.TurnWrites as turn_writes
use Rattle.host_manager.proofs.Turns as turns

-- what is judged by replies alone is a reply
judged_replies : {A : Type 0} (view : View) (look : Look (Result A Refusal)) (tell : A → Reply)
    → (reply : Reply) × (outcome view (judged look (λ x. Replies (tell x))) ≡ Replies reply)
judged_replies {A = A} view look tell = by_result (outcome view look)
    (outcome_end view (λ r. either r (λ x. Replies (tell x)) (λ refusal. Replies (IsRefused refusal))) look)
  where
    by_result : (r : Result A Refusal) → outcome view (judged look (λ x. Replies (tell x)))
        ≡ either r (λ x. Replies (tell x)) (λ refusal. Replies (IsRefused refusal))
        → (reply : Reply) × (outcome view (judged look (λ x. Replies (tell x))) ≡ Replies reply)
    by_result (Ok x) e = (tell x, e)
    by_result (Err refusal) e = (IsRefused refusal, e)

tells_replies : (m : Tables) (call : Call) (root : Fid) (path : List (List ℕ)) → OnlyTells call
    → (reply : Reply) × (outcome (content m.cache) (path_look m call root path) ≡ Replies reply)
unfolding read_look list_look stat_look access_look
tells_replies m (Read place from len) root path tells =
    judged_replies (content m.cache) (checked (permitted_look m.user root path read_right) (read_from from len))
    (λ bytes. Bytes bytes)
tells_replies m (ListNames place) root path tells =
    judged_replies (content m.cache) (checked (target_look m.user root path) (entries_for m.user))
    (λ entries. Names (names_of entries))
tells_replies m (Stat place) root path tells =
    judged_replies (content m.cache) (checked (target_look m.user root path) (facts_for m.user)) (λ facts. Facts facts)
tells_replies m (GetAcl place which) root path tells =
    judged_replies (content m.cache) (checked (target_look m.user root path) (list_for which)) (λ list. Access list)
tells_replies m call root path tells = elim tells [ ]

module _ (m new : Tables) (call : Call) (out : List ℕ) (count : ℕ) (it : SpeaksAtOnce m new call out count)
    (free : IsFreePair m) (gives : IsSoundGives m.gives) (leads : LeadsBy m call it.root it.path it.verdict) where
  abbrev marks : List Need
  marks = marks_of (content m.cache) m.user (last_needs m it.verdict) (way_of m call it.root it.path) it.root

  module _ (script : Script) (past : List Step) (running : IsRunning script m past) (number : ℕ) (line : Line)
      (next : IsNextLine (lines_of script (Host m.host)) past number line) (deed : line.deed ≡ MakesCall call) where
    uses : AreUses m
    uses = uses_are script m past running.rests.stands

    look_is : look_from m call ≡ path_look m call it.root it.path
    look_is = it.walks uses

    comes : IsCovered (held_of m) (content m.cache) (path_look m call it.root it.path)
        × (outcome (content m.cache) (path_look m call it.root it.path) ≡ meant m call it.verdict)
    comes = comes_out m call it.root it.path running.tidy.sizes it.comes.made it.comes.walked it.verdict
        it.comes.verdict_is

    verdict : verdict_from m call ≡ Replies it.can.reply
    verdict =
        let r = tells_replies m call it.root it.path it.tells in
        let e : verdict_from m call ≡ Replies r.0 = ap (outcome (content m.cache)) look_is ∙ r.1 in
        let p : Some r.0 ≡ Some it.can.reply = sym (ap reply_now e) ∙ it.can.settled in
        let q : r.0 ≡ it.can.reply = cc in
        e ∙ ap Replies q

    alike : (t : Token) → Helped marks t ↔ Helped (needs_from m call) t
    alike t = subst (λ (l : Look Meant). Helped marks t ↔ Helped (needs_of (content m.cache) l) t) (sym look_is)
        (tells_alike m call it.root it.path it.verdict it.tells leads comes.1 t)

    told : seen it.marked.cache ≡ record (seen m.cache) { held = used_all marks m.cache.held }
    told = it.marks.shown ∙ marked_held marks (seen m.cache)

    free_m : IsFree m
    free_m = record { none_open = free.0; few = free.1 }

    next_call : IsNextCall script m.host past number call
    next_call = record { line = line; next = next; deed = deed }

    module _ (askable : IsCall script.roster call) where
      abbrev c : Asked
      c = record { k = m.begun + 1; call = call }

      turn : IsTurn script m m past (LineOf number) [] [] c true
      turn = line_turn script m past number call running free_m next_call askable

      alone : turns.DuesAlone script m m past (LineOf number) [] [] c true turn []
      alone = record { due = λ y i. elim i [ ]; says = λ g one i. elim i [ ]; quiet = λ e. refl }

      abbrev w : AnsweredBy
      w = record { cache = it.marked.cache; dirty = m.dirty; uses = m.uses }

      abbrev left : Tables
      left = answers.new script m m past (LineOf number) [] [] c true turn w

      new_is : new ≡ left
      new_is = it.after ∙ ap (λ (x : Tables). record x { begun = m.begun + 1; lost = [] }) it.marks.tables
          ∙ (λ i. record m { cache = it.marked.cache; begun = m.begun + 1; lost = []; call = free.0 i })

      pub speaks_right : RunsOn script m new past (answered_step m.host number (m.begun + 1) call it.can.reply)
      speaks_right = subst (λ (x : Tables). RunsOn script m x past (answered_step m.host number (m.begun + 1) call
          it.can.reply)) (sym new_is)
          (turn_writes.told_runs script m m past (LineOf number) [] [] c true turn [] alone it.can.reply verdict
          it.can.covered it.marked.cache marks told alike)

      pub speaks_due : HostDue script m.host past (answered_step m.host number (m.begun + 1) call it.can.reply)
      speaks_due = reply_due script m m past (LineOf number) [] [] c true turn gives (by_line m past number) m.host
          it.can.reply None [] new (ap (λ (x : Tables). x.gives) new_is) (λ e. let p = sym verdict ∙ e in cc)
          speaks_right

  pub spoken : SpokenRight m new call out count
  spoken = record {
    tells = it.tells;
    can = it.can;
    spelled = it.spelled;
    fits = it.fits;
    right = λ script past running number line next deed askable.
        speaks_right script past running number line next deed askable;
    due = λ script past running number line next deed askable.
        speaks_due script past running number line next deed askable;
  }

-- where it leads, by its verdict
leads_by : (m : Tables) (call : Call) (root : Fid) (path : List (List ℕ)) (v : Result Verdict Refusal)
    → ((w : Verdict) → v ≡ Ok w → LeadsSo m call root path w) → LeadsBy m call root path v
leads_by m call root path (Ok w) leads = leads w refl
leads_by m call root path (Err refusal) leads = tt

-- what the code answers is right, or nothing changes
pub answers_into : (m new : Tables) (call : Call) (room : ℕ) (out : List ℕ) (result : Option ℕ) → IsFreePair m
    → IsSoundGives m.gives → (AreUses m → AreSized m.cache → MatchOption result (StaysSilent m new call room)
    (λ count. SpeaksAtOnce m new call out count))
    → (script : Script) (past : List Step) → IsRunning script m past
    → MatchOption result (StaysSilent m new call room) (λ count. SpokenRight m new call out count)
answers_into m new call room out result free gives told script past running =
    by_result result (told (uses_are script m past running.rests.stands) running.tidy.sizes)
  where
    by_result : (r : Option ℕ)
        → MatchOption r (StaysSilent m new call room) (λ count. SpeaksAtOnce m new call out count)
        → MatchOption r (StaysSilent m new call room) (λ count. SpokenRight m new call out count)
    by_result None silent = silent
    by_result (Some count) it = spoken m new call out count it free gives
        (leads_by m call it.root it.path it.verdict it.comes.leads)
