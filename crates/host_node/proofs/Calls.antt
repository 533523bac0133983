-- A call that a host makes between turns.
use Rattle.std.proofs.Common.{◌≡◌, inl, inr, ℕ, ◌+◌, Bool, true, false, cond, List, [], ◌∷◌, ◌++◌}
use Rattle.std.proofs.Common.{Option, None, Some, slice_get, take, refl, sym, ap, ◌∙◌, subst, append_assoc}
use Rattle.std.proofs.Common.{arith}
use Rattle.std.specs.Option.{option_and_then, option_map}
use Rattle.std.specs.Prelude.{Err, IfOk, IsOk, MatchOption, Ok, OnOk, Result}
use Rattle.base_types.specs.declared.errors.NoMemory.{NoMemory}
use Rattle.base_types.specs.declared.ids.HostId.{HostId}
use Rattle.base_types.specs.declared.ids.Node.TheVariants.{Host}
use Rattle.host_manager.specs.Due.{IsOwn, LineDue}
use Rattle.host_manager.specs.Spoken.{IsFree, SpokenRight, answered_step, tables_of}
use Rattle.host_manager.specs.declared.machine.Machine.{Machine}
use Rattle.host_node.proofs.Standing.{after_line, can_ask, is_next}
use Rattle.host_node.proofs.Turns.{next_below}
use Rattle.host_node.specs.Between.{Holds, IsSaid, IsToldOf, Said, step_of}
use Rattle.host_node.specs.Standing.{CanCall, HasSpoken, IsOver, Stands, StandsSo, host_of}
use Rattle.host_node.specs.declared.between.Between.{Between}
use Rattle.host_node.specs.declared.between.Spoken.{Spoken}
use Rattle.host_node.specs.declared.between.Spoken.TheVariants.{Answered}
use Rattle.host_node.specs.declared.host.HostNode.{HostNode}
use Rattle.host_manager.specs.Running.{IsAskable, IsRunning, LineRight}
use Rattle.host_tables.specs.declared.tables.Tables.{Tables}
use Rattle.hub_laws.specs.Keeping.{Round, steps_in}
use Rattle.hub_node.specs.Lines.{LinesView, may_go, next_number, next_of}
use Rattle.hub_node.specs.Nodes.{Part}
use Rattle.message_calls.specs.Replies.{spell_reply}
use Rattle.message_types.specs.Soundness.{IsSound}
use Rattle.message_types.specs.declared.message.Message.{Message}
use Rattle.run_rules.specs.HostDue.{HostDue}
use Rattle.run_rules.specs.HostMay.{HostMay}
use Rattle.run_rules.specs.Past.{In, appended}
use Rattle.run_rules.specs.Steps.{IsNextLine, lines_of}
use Rattle.run_rules.specs.Tokens.{calls_begun}
use Rattle.run_rules.specs.declared.step.Cause.TheVariants.{Line as LineOf}
use Rattle.run_rules.specs.declared.step.Step.{Step}
use Rattle.script_lines.specs.declared.script.Deed.{Deed}
use Rattle.script_lines.specs.declared.script.Deed.TheVariants.{Call as MakesCall}
use Rattle.script_lines.specs.declared.script.Line.{Line}
use Rattle.script_lines.specs.declared.script.Script.{Script}
use Rattle.tree_calls.specs.declared.call.Call.{Call}

-- the next line is there, and has the number of the next one
next_slot : (lines : LinesView) (line : Line) → next_of lines ≡ Some line → slice_get lines.lines lines.gone ≡ Some line
next_slot lines line is = by_slot (slice_get lines.lines lines.gone) refl is
  where
    by_test : (l : Line) (b : Bool) → cond b (Some l) None ≡ Some line → l ≡ line
    by_test l true h = cc
    by_test l false h = absurd (cc)

    by_slot : (o : Option Line) → slice_get lines.lines lines.gone ≡ o
        → option_and_then (λ (l : Line). cond (may_go lines.told l.deed) (Some l) None) o ≡ Some line
        → slice_get lines.lines lines.gone ≡ Some line
    by_slot None e h = absurd (cc)
    by_slot (Some l) e h = e ∙ ap (λ (z : Line). Some z) (by_test l (may_go lines.told l.deed) h)

number_next : (lines : LinesView) (line : Line) (number : ℕ) → next_of lines ≡ Some line
    → next_number lines ≡ Some number → number ≡ line.number
number_next lines line number is next =
    let slot : next_number lines ≡ Some line.number =
    ap (option_map (λ (l : Line). l.number)) (next_slot lines line is) in
    let same : Some number ≡ Some line.number = sym next ∙ slot in cc

-- nothing changed where nothing was answered
pub none_told : {A : Type 0} (o : Option A) (P R : Type 0) (Q : A → Type 0) → ((x : A) → o ≡ Some x → ⊥)
    → MatchOption o (P × R) Q → P
none_told None P R Q none h = h.0
none_told (Some x) P R Q none h = absurd (none x refl)

-- what waits between turns is no part of where it stands
with_between : (part : Part) (n : HostNode) (past : List Round) (made : List Step) (came : List Message) (lapses : ℕ)
    (b : Between) → StandsSo part n past made came lapses → StandsSo part
    (record n { between = b }) past made came lapses
with_between part n past made came lapses b so = record {
  node = so.node;
  script = so.script;
  kept = so.kept;
  host = so.host;
  runs = so.runs;
  stopped = so.stopped;
  lines = so.lines;
  gone = so.gone;
  within = so.within;
  told = so.told;
  begun = so.begun;
}

module _ (part : Part) (n : HostNode) (past : List Round) (made : List Step) (st : Stands part n past made)
    (call : Call)
    (can : CanCall n call) where
  abbrev own : List Step
  own = appended (made ++ st.waiting) (steps_in past)

  abbrev m : Tables
  m = tables_of n.manager

  abbrev script : Script
  script = part.run.script

  live : IsOver n → ⊥
  live (inl stopped) = let no = can.live in absurd (cc)
  live (inr over) = let below = next_below n.lines can.line can.next in let full = over.0 in absurd (omega arith)

  pub running : IsRunning script m own
  running = st.so.runs can.live

  slot : IsNextLine (lines_of script (Host m.host)) own can.line.number can.line
  slot = (is_next part n past (made ++ st.waiting) [] 0 st.so live can.line can.next can.begun, refl)

  askable : IsAskable script.roster (MakesCall call)
  askable =
      subst (λ (d : Deed). IsAskable script.roster d) can.makes
      (can_ask part n past (made ++ st.waiting) [] 0 st.so live can.line can.next can.begun)

  -- a step more
  then_stands : (new : Machine) (b : Between) (spoken : Spoken) (out : List ℕ) (s : Step)
      → HostMay script m.host own s → IsOwn m s
      → ((y : Message) → In y s.sent → IsSound script.roster y) → HostDue script m.host own s
      → s.cause ≡ LineOf can.line.number → (tables_of new).host ≡ m.host → IsRunning script (tables_of new) (s ∷ own)
      → Holds b n.lines.lines (host_of part.node) (st.waiting ++ s ∷ []) → IsToldOf s spoken out
      → HasSpoken part
      (record n { manager = new; lines = record n.lines { gone = n.lines.gone + 1 }; between = b }) past made
      st.waiting spoken out
  then_stands new b spoken out s may mine sound due by host runs holds told = record {
    stands = record {
      waiting = st.waiting ++ s ∷ [];
      holds = holds;
      idle = (λ e. let no = can.live in absurd (cc));
      so = with_between part
          (record n { manager = new; lines = record n.lines { gone = n.lines.gone + 1 } }) past
          (made ++ (st.waiting ++ s ∷ [])) [] 0 b
          (subst (λ (l : List Step). StandsSo part
          (record n { manager = new; lines = record n.lines { gone = n.lines.gone + 1 } }) past l [] 0)
          (append_assoc made st.waiting (s ∷ []))
          (after_line part n past (made ++ st.waiting) [] 0 st.so live can.line can.next can.begun s may mine sound due
          by new n.stopped (λ e. (host, runs)) (λ e. let no = can.live in absurd (cc))));
    };
    step = s;
    waits = refl;
    told = told;
  }

  -- it was answered without memory, and is noted
  pub answered_then : (new : Machine) (out : List ℕ) (count : ℕ) → SpokenRight m (tables_of new) call out count
      → (b : Between) (result : Result Spoken NoMemory) (done : Result (Unit {0}) NoMemory) → OnOk result (IsOk done)
      → IfOk result (λ spoken. spoken ≡ Answered count) → (k : ℕ) → k ≡ (tables_of new).begun
      → ((said : Said) (host : HostId) (steps : List Step) → IsSaid n.lines.lines said → said.place ≡ n.lines.gone
      → said.k ≡ k → take count out ≡ (spell_reply said.reply).bytes → Holds n.between n.lines.lines host steps
      → OnOk done (Holds b n.lines.lines host (steps ++ step_of host said ∷ [])))
      → IfOk result (λ spoken. HasSpoken part
      (record n { manager = new; lines = record n.lines { gone = n.lines.gone + 1 }; between = b }) past made
      st.waiting spoken out)
  answered_then new out count right b (Err e) done is spoke k k_is noted = tt
  answered_then new out count right b (Ok spoken) (Err e) is spoke k k_is noted =
      let clash : false ≡ true = is in absurd (cc)
  answered_then new out count right b (Ok spoken) (Ok u) is spoke k k_is noted =
      let reply = right.can.reply in
      let s : Step = answered_step m.host can.line.number (m.begun + 1) call reply in
      let runs = right.right script own running can.line.number can.line slot can.makes askable in
      let due : HostDue script m.host own s =
      right.due script own running can.line.number can.line slot can.makes askable in
      let before : m.begun ≡ calls_begun own = running.rests.stands.call.begun in
      let behind : (tables_of new).begun ≡ 1 + calls_begun own = runs.runs.rests.stands.call.begun in
      let same_k : m.begun + 1 ≡ k = omega arith in
      let said : Said = record {
        place = n.lines.gone;
        line = can.line;
        k = m.begun + 1;
        call = call;
        reply = reply;
      } in
      let held : Holds b n.lines.lines m.host (st.waiting ++ s ∷ []) =
      noted said m.host st.waiting
      (record { at = next_slot n.lines can.line can.next; makes = can.makes; fits = right.fits }) refl same_k
      right.spelled
      (subst (λ (h : HostId). Holds n.between n.lines.lines h st.waiting) (sym (st.so.host can.live)) st.holds) in
      let told : IsToldOf s spoken out =
      subst (λ (z : Spoken). IsToldOf s z out) (sym spoke)
      (record { host = m.host; k = m.begun + 1; call = call; reply = reply; first = true }, inl refl, right.spelled) in
      then_stands new b spoken out s runs.may (record { node = refl; from = (λ y i. absurd i) }) runs.sound due refl
      runs.host runs.runs
      (subst (λ (h : HostId). Holds b n.lines.lines h (st.waiting ++ s ∷ [])) (st.so.host can.live) held) told

  -- it changed nothing, and the call is asked about, or answered by a step
  pub still_free : (between : Tables) → between ≡ m → IsFree between
  still_free between same = subst IsFree (sym same) can.free

  pub asked_then : (between : Tables) → between ≡ m → (new : Machine) (r : Result Step NoMemory) (number : ℕ)
      → next_number n.lines ≡ Some number
      → IfOk r (λ s. LineRight between (tables_of new) number (MakesCall call) s) → IfOk r (IsOwn between)
      → IfOk r (LineDue between number (MakesCall call)) → (b : Between) (done : Result Spoken NoMemory)
      → OnOk done (IsOk r)
      → ((steps : List Step) → Holds n.between n.lines.lines (tables_of new).host steps
      → IfOk r (λ s. OnOk done (Holds b n.lines.lines (tables_of new).host (steps ++ s ∷ []))))
      → (out : List ℕ) → IfOk r (λ s. IfOk done (λ spoken. IsToldOf s spoken out))
      → IfOk done (λ spoken. HasSpoken part
      (record n { manager = new; lines = record n.lines { gone = n.lines.gone + 1 }; between = b }) past made
      st.waiting spoken out)
  asked_then between same new r number next right mine due b (Err e) is holds out told = tt
  asked_then between same new (Err e) number next right mine due b (Ok u) is holds out told =
      let clash : false ≡ true = is in absurd (cc)
  asked_then between same new (Ok s) number next right mine due b (Ok u) is holds out told =
      let at : number ≡ can.line.number = number_next n.lines can.line number can.next next in
      let its : LineRight m (tables_of new) can.line.number (MakesCall call) s =
      subst (λ (x : ℕ). LineRight m (tables_of new) x (MakesCall call) s) at
      (subst (λ (t : Tables). LineRight t (tables_of new) number (MakesCall call) s) same right) in
      let owes : LineDue m can.line.number (MakesCall call) s =
      subst (λ (x : ℕ). LineDue m x (MakesCall call) s) at
      (subst (λ (t : Tables). LineDue t number (MakesCall call) s) same due) in
      let own_it : IsOwn m s = subst (λ (t : Tables). IsOwn t s) same mine in
      let r = its script own running can.line slot can.makes askable in
      let host : (tables_of new).host ≡ host_of part.node = r.0.host ∙ st.so.host can.live in
      let held : Holds b n.lines.lines (tables_of new).host (st.waiting ++ s ∷ []) =
      holds st.waiting
      (subst (λ (h : HostId). Holds n.between n.lines.lines h st.waiting) (sym host) st.holds) in
      then_stands new b u out s r.0.may own_it r.0.sound (owes script own running can.line slot can.makes askable) r.1
      r.0.host r.0.runs
      (subst (λ (h : HostId). Holds b n.lines.lines h (st.waiting ++ s ∷ [])) host held) told
