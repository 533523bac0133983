-- The calls that a host begins are those of its lines, and then ends of its labels, none where it has stopped.
use Rattle.std.proofs.Common.{◌≡◌, ℕ, suc, ◌+◌, ◌≤◌, ◌<◌, ◌⊎◌, Bool, true, false, if◌then◌else◌, Some, None, Option, List, [], ◌∷◌, ◌++◌}
use Rattle.std.proofs.Common.{length, map, take, inl, inr, sym, ◌∙◌, ap, subst, refl, arith, append-nil, append_assoc, take_all}
use Rattle.std.proofs.lemmas.List.{map_push, length_push}
use Rattle.std.proofs.lemmas.List.Sums.{sum_by-cons}
use Rattle.std.proofs.lemmas.Option.{slice_get_within, get_or_from_slice_get}
use Rattle.std.proofs.Math.Seq.{take-suc}
use Rattle.std.specs.Prelude.{cond, count_by, is_some, slice_get}
use Rattle.base_types.specs.declared.ids.HostId.{HostId}
use Rattle.base_types.specs.declared.ids.Node.TheVariants.{Host}
use Rattle.token_types.specs.declared.token.Kind.{Kind}
use Rattle.token_types.specs.declared.token.Kind.TheVariants.{Bytes, Status, Lock as LockToken, Opening}
use Rattle.tree_calls.specs.declared.call.Call.{Call}
use Rattle.script_lines.specs.declared.script.Deed.{Deed}
use Rattle.script_lines.specs.declared.script.Deed.TheVariants.{Call as MakesCall, Raise, Await, Stop}
use Rattle.script_lines.specs.declared.script.Deed.TheVariants.{Restart as Restarts}
use Rattle.script_lines.specs.declared.script.Line.{Line}
use Rattle.script_lines.specs.declared.script.Script.{Script}
use Rattle.run_rules.specs.declared.applied.Answer.{Answer}
use Rattle.run_rules.specs.declared.step.Asked.{Asked}
use Rattle.run_rules.specs.declared.step.Cause.{Cause}
use Rattle.run_rules.specs.declared.step.Cause.TheVariants.{End, Evict, Flushed, Freight, Lapse}
use Rattle.run_rules.specs.declared.step.Cause.TheVariants.{Line as LineOf, Message as Came, Restart}
use Rattle.run_rules.specs.declared.step.Step.{Step}
use Rattle.run_rules.specs.HostMay.{DoesLine, HostMay}
use Rattle.run_rules.specs.Messages.{HasStopped}
use Rattle.run_rules.specs.Past.{In}
use Rattle.run_rules.specs.Runs.{firsts_of, past_of}
use Rattle.run_rules.specs.Steps.{IsNextLine, goes_with, lines_gone, lines_of, servers_of, steps_of_host}
use Rattle.run_rules.specs.Tokens.{BeginsCall, calls_begun, end_call, end_of}
use Rattle.run_due.specs.Begun.{asked_as, first_in, begun_as, begun_by, call_in, calls_of, NumberedFrom, BegunByLines}
use Rattle.run_contents.proofs.Runs.{own_run}
use Rattle.run_due.specs.Begun.{CallsAreOfLines, EndedRunsBeginAll}
use Rattle.run_rules.specs.declared.step.Labelled.{Labelled}
use Rattle.message_types.specs.Soundness.{Each, IsEnd}

too_many : (n : ℕ) → suc (suc n) ≤ 1 → ⊥
too_many n le = let k : suc (suc n) ≤ 1 = le in omega (arith, k)

same : (k l : ℕ) (c d : Call) → k ≡ l → c ≡ d → asked_as k c ≡ asked_as l d
same k l c d p q = ap (λ z. asked_as z c) p ∙ ap (λ z. asked_as l z) q

pub first_one : (x : Answer) → x.first ≡ true → first_in (x ∷ []) ≡ asked_as x.k x.call ∷ []
first_one x e = ap (λ (b : Bool). if b then asked_as x.k x.call ∷ [] else []) e

pub first_none : (x : Answer) → x.first ≡ false → first_in (x ∷ []) ≡ []
first_none x e = ap (λ (b : Bool). if b then asked_as x.k x.call ∷ [] else []) e

counted : (xs : List Answer) → length xs ≤ 1
    → count_by (λ (answer : Answer). answer.first) xs ≡ length (first_in xs)
counted [] le = refl
counted (a ∷ []) le = sum_by-cons (λ (answer : Answer). cond answer.first 1 0) a [] ∙ go a.first refl
  where
    go : (b : Bool) → a.first ≡ b → cond a.first 1 0 + 0 ≡ length (first_in (a ∷ []))
    go true e = ap (λ (b : Bool). cond b 1 0 + 0) e ∙ sym (ap length (first_one a e))
    go false e = ap (λ (b : Bool). cond b 1 0 + 0) e ∙ sym (ap length (first_none a e))
counted (a ∷ b ∷ xs) le = absurd (too_many (length xs) le)

numbered_push : (k : ℕ) (xs : List Asked) (y : Asked) → NumberedFrom k xs → y.k ≡ length xs + k
    → NumberedFrom k (xs ++ y ∷ [])
numbered_push k [] y n e = let e' : y.k ≡ 0 + k = e in (omega (arith, e'), tt)
numbered_push k (x ∷ xs) y n e =
    let e' : y.k ≡ suc (length xs) + k = e in
    (n.0, numbered_push (suc k) xs y n.1 (omega (arith, e')))

calls_push : (xs : List Line) (l : Line) → calls_of (xs ++ l ∷ []) ≡ calls_of xs ++ call_in l.deed
calls_push [] l = append-nil (call_in l.deed)
calls_push (x ∷ xs) l =
    ap (λ z. call_in x.deed ++ z) (calls_push xs l) ∙ sym (append_assoc (call_in x.deed) (calls_of xs) (call_in l.deed))

pub take_next : (xs : List Line) (n : ℕ) (x : Line) → slice_get xs n ≡ Some x → take (suc n) xs ≡ take n xs ++ x ∷ []
take_next xs n x e =
    take-suc xs n x (slice_get_within xs n x e) ∙ ap (λ z. take n xs ++ z ∷ []) (get_or_from_slice_get xs n x x e)

-- the end of a use is an Unlock or a CloseFile
ends_is_end : (u : Labelled) → IsEnd (end_of u)
ends_is_end u = go u.token.kind
  where
    go : (k : Kind) → IsEnd (end_call k u.label)
    go (Opening kind) = tt
    go (Bytes update span) = tt
    go (Status update) = tt
    go (LockToken writing span) = tt

each_push : (xs : List Call) (x : Call) → Each IsEnd xs → IsEnd x → Each IsEnd (xs ++ x ∷ [])
each_push [] x all e = (e, tt)
each_push (y ∷ xs) x all e = (all.0, each_push xs x all.1 e)

module _ (script : Script) (host : HostId) (past : List Step) (s : Step) (m : HostMay script host past s) where
  -- where it isn't a line the host doesn't stop
  goes_on : ((n : ℕ) → s.cause ≡ LineOf n → ⊥) → HasStopped (s ∷ past) → ⊥
  goes_on line x = elim x.3 [
    | inl sends ↦ (let k = m.lines.stops (x.0, x.1, x.2, sends) in line k.0 k.2)
    | inr old ↦ m.tokens.live (x.0, x.1, x.2, old)
  ]

  begun : List Asked
  begun = begun_as s.asked s.answers

  -- what it begins it has begun
  begun_of : (k : ℕ) (call : Call) → BeginsCall s k call → begun_as s.asked s.answers ≡ asked_as k call ∷ []
  begun_of k call (inl p) = ap (λ (o : Option Asked). begun_as o s.answers) p
  begun_of k call (inr (a, i, f, ek, ec)) = go s.asked refl
    where
      alone : (xs : List Answer) → length xs ≤ 1 → In a xs → first_in xs ≡ asked_as k call ∷ []
      alone [] le i = elim i [ ]
      alone (x ∷ []) le (inl e) =
          first_one x (ap (λ (z : Answer). z.first) (sym e) ∙ f)
          ∙ ap (λ z. z ∷ []) (same x.k k x.call call (ap (λ (z : Answer). z.k) (sym e) ∙ ek) (ap (λ (z : Answer). z.call) (sym e) ∙ ec))
      alone (x ∷ []) le (inr i) = elim i [ ]
      alone (x ∷ y ∷ xs) le i = absurd (too_many (length xs) le)

      go : (o : Option Asked) → s.asked ≡ o → begun_as s.asked s.answers ≡ asked_as k call ∷ []
      go (Some c) e = absurd (m.answers.asked a c i e)
      go None e = ap (λ (o : Option Asked). begun_as o s.answers) e ∙ alone s.answers m.answers.answers_one i

  -- it begins none, or one
  begun_cases : (begun_as s.asked s.answers ≡ [])
      ⊎ ((x : Asked) × (begun_as s.asked s.answers ≡ x ∷ []) × BeginsCall s x.k x.call)
  begun_cases = go s.asked refl
    where
      one : (xs : List Answer) → s.answers ≡ xs → s.asked ≡ None → length xs ≤ 1
          → (begun_as s.asked s.answers ≡ []) ⊎ ((x : Asked) × (begun_as s.asked s.answers ≡ x ∷ []) × BeginsCall s x.k x.call)
      one [] e n le =
          inl (ap (λ (o : Option Asked). begun_as o s.answers) n ∙ ap first_in e)
      one (x ∷ []) e n le = by x.first refl
        where
          by : (b : Bool) → x.first ≡ b → (begun_as s.asked s.answers ≡ [])
              ⊎ ((y : Asked) × (begun_as s.asked s.answers ≡ y ∷ []) × BeginsCall s y.k y.call)
          by true f = inr (
            asked_as x.k x.call,
            ap (λ (o : Option Asked). begun_as o s.answers) n ∙ (ap first_in e ∙ first_one x f),
            inr (x, subst (In x) (sym e) (inl refl), f, refl, refl),
          )
          by false f = inl (ap (λ (o : Option Asked). begun_as o s.answers) n ∙ (ap first_in e ∙ first_none x f))
      one (x ∷ y ∷ xs) e n le = absurd (too_many (length xs) le)

      go : (o : Option Asked) → s.asked ≡ o → (begun_as s.asked s.answers ≡ [])
          ⊎ ((x : Asked) × (begun_as s.asked s.answers ≡ x ∷ []) × BeginsCall s x.k x.call)
      go (Some c) e = inr (c, ap (λ (o : Option Asked). begun_as o s.answers) e, inl e)
      go None e = one s.answers refl e m.answers.answers_one

  begun_none : ((k : ℕ) (call : Call) → BeginsCall s k call → ⊥) → begun_as s.asked s.answers ≡ []
  begun_none none = elim begun_cases [ inl e ↦ e | inr x ↦ absurd (none x.0.k x.0.call x.2) ]

  step_count : calls_begun (s ∷ past) ≡ length (begun_as s.asked s.answers) + calls_begun past
  step_count = ap (λ n. n + calls_begun past) (go s.asked refl)
    where
      go : (o : Option Asked) → s.asked ≡ o
          → (if is_some s.asked then 1 else count_by (λ (answer : Answer). answer.first) s.answers)
          ≡ length (begun_as s.asked s.answers)
      go (Some c) e =
          ap (λ (o : Option Asked). if is_some o then 1 else count_by (λ (answer : Answer). answer.first) s.answers) e
          ∙ sym (ap (λ (o : Option Asked). length (begun_as o s.answers)) e)
      go None e =
          ap (λ (o : Option Asked). if is_some o then 1 else count_by (λ (answer : Answer). answer.first) s.answers) e
          ∙ (counted s.answers m.answers.answers_one ∙ sym (ap (λ (o : Option Asked). length (begun_as o s.answers)) e))

  module _ (b : BegunByLines (lines_of script (Host host)) past) where
    lines : List Line
    lines = lines_of script (Host host)

    -- none is begun, and the lines that have gone make no further call
    none_more : begun_as s.asked s.answers ≡ [] → (implied : List Call)
        → calls_of (take (lines_gone past) (lines_of script (Host host))) ++ b.implied
        ≡ calls_of (take (lines_gone (s ∷ past)) (lines_of script (Host host))) ++ implied
        → (implied ≡ []) ⊎ (lines_gone (s ∷ past) ≡ length (lines_of script (Host host))) → Each IsEnd implied
        → (HasStopped (s ∷ past) → implied ≡ []) → BegunByLines (lines_of script (Host host)) (s ∷ past)
    none_more e implied calls late ends stopped =
        let eq : begun_by (s ∷ past) ≡ begun_by past = ap (λ z. begun_by past ++ z) e ∙ append-nil (begun_by past) in
        let none : calls_begun (s ∷ past) ≡ 0 + calls_begun past =
        step_count ∙ ap (λ (z : List Asked). length z + calls_begun past) e in
        let long : length (begun_by (s ∷ past)) ≡ length (begun_by past) = ap length eq in
        let count = b.count in
        record {
          implied = implied;
          calls = ap (map (λ (asked : Asked). asked.call)) eq ∙ (b.calls ∙ calls);
          late = late;
          numbers = subst (NumberedFrom 1) (sym eq) b.numbers;
          count = omega (arith, none, long, count);
          ends = ends;
          stopped = stopped;
        }

    -- one is begun, with the next number
    one_more : (x : Asked) → begun_as s.asked s.answers ≡ x ∷ [] → x.k ≡ suc (calls_begun past) → (implied : List Call)
        → (calls_of (take (lines_gone past) (lines_of script (Host host))) ++ b.implied) ++ x.call ∷ []
        ≡ calls_of (take (lines_gone (s ∷ past)) (lines_of script (Host host))) ++ implied
        → (implied ≡ []) ⊎ (lines_gone (s ∷ past) ≡ length (lines_of script (Host host))) → Each IsEnd implied
        → (HasStopped (s ∷ past) → implied ≡ []) → BegunByLines (lines_of script (Host host)) (s ∷ past)
    one_more x e next implied calls late ends stopped =
        let eq : begun_by (s ∷ past) ≡ begun_by past ++ x ∷ [] = ap (λ z. begun_by past ++ z) e in
        let count = b.count in
        let one : calls_begun (s ∷ past) ≡ 1 + calls_begun past =
        step_count ∙ ap (λ (z : List Asked). length z + calls_begun past) e in
        let long : length (begun_by (s ∷ past)) ≡ length (begun_by past) + 1 =
        ap length eq ∙ length_push (begun_by past) x in
        let k : x.k ≡ length (begun_by past) + 1 = next ∙ omega (arith, count) in
        record {
          implied = implied;
          calls = ap (map (λ (asked : Asked). asked.call)) eq
              ∙ (map_push (λ (asked : Asked). asked.call) (begun_by past) x ∙ (ap (λ z. z ++ x.call ∷ []) b.calls ∙ calls));
          late = late;
          numbers = subst (NumberedFrom 1) (sym eq) (numbered_push 1 (begun_by past) x b.numbers k);
          count = omega (arith, one, long, count);
          ends = ends;
          stopped = stopped;
        }

    gone_by : (c : Cause) → s.cause ≡ c → lines_gone (s ∷ past) ≡ goes_with c + lines_gone past
    gone_by c e = ap (λ z. goes_with z + lines_gone past) e

    gone_same : (c : Cause) → s.cause ≡ c → goes_with c ≡ 0 → lines_gone (s ∷ past) ≡ lines_gone past
    gone_same c e z = let g = gone_by c e in omega (arith, g, z)

    -- a step that isn't a line's
    quiet : ((n : ℕ) → s.cause ≡ LineOf n → ⊥) → lines_gone (s ∷ past) ≡ lines_gone past → begun_as s.asked s.answers ≡ []
        → BegunByLines (lines_of script (Host host)) (s ∷ past)
    quiet line g e = none_more e b.implied
        (ap (λ n. calls_of (take n (lines_of script (Host host))) ++ b.implied) (sym g))
        (elim b.late [ inl x ↦ inl x | inr x ↦ inr (g ∙ x) ]) b.ends
        (λ st. absurd (goes_on line st))

    no_begin : ((n : ℕ) → s.cause ≡ LineOf n → ⊥) → (s.cause ≡ End → ⊥) → begun_as s.asked s.answers ≡ []
    no_begin line end =
        begun_none (λ k call x. elim (m.lines.begins k call x) [ inl l ↦ line l.0 l.1 | inr e ↦ end e ])

    by_line : (n : ℕ) → s.cause ≡ LineOf n → BegunByLines (lines_of script (Host host)) (s ∷ past)
    by_line n e = by next.0.deed refl next.2
      where
        next : (line : Line) × IsNextLine (lines_of script (Host host)) past n line
            × DoesLine (servers_of script.roster) past s line.deed
        next = m.lines.next n e

        next_is : slice_get (lines_of script (Host host)) (lines_gone past) ≡ Some next.0
        next_is = next.1.0

        within : lines_gone past < length (lines_of script (Host host))
        within = slice_get_within (lines_of script (Host host)) (lines_gone past) next.0 next_is

        gone : lines_gone (s ∷ past) ≡ suc (lines_gone past)
        gone = let g : lines_gone (s ∷ past) ≡ 1 + lines_gone past = gone_by (LineOf n) e in omega (arith, g)

        none_implied : b.implied ≡ []
        none_implied = elim b.late [ inl x ↦ x | inr x ↦ absurd (omega (arith, within, x)) ]

        more : calls_of (take (lines_gone (s ∷ past)) (lines_of script (Host host)))
            ≡ calls_of (take (lines_gone past) (lines_of script (Host host))) ++ call_in next.0.deed
        more = ap (λ z. calls_of (take z (lines_of script (Host host)))) gone
            ∙ (ap calls_of (take_next (lines_of script (Host host)) (lines_gone past) next.0 next_is)
            ∙ calls_push (take (lines_gone past) (lines_of script (Host host))) next.0)

        none_in : call_in next.0.deed ≡ [] → begun_as s.asked s.answers ≡ []
            → BegunByLines (lines_of script (Host host)) (s ∷ past)
        none_in q x = none_more x []
            (ap (λ z. calls_of (take (lines_gone past) (lines_of script (Host host))) ++ z) none_implied
            ∙ (ap (λ z. calls_of (take (lines_gone past) (lines_of script (Host host))) ++ z) (sym q)
            ∙ (sym more ∙ sym (append-nil _)))) (inl refl) tt (λ st. refl)

        by : (d : Deed) → next.0.deed ≡ d → DoesLine (servers_of script.roster) past s next.0.deed
            → BegunByLines (lines_of script (Host host)) (s ∷ past)
        by (MakesCall call) q x =
            let does : BeginsCall s (suc (calls_begun past)) call = subst (DoesLine (servers_of script.roster) past s) q x in
            one_more (asked_as (suc (calls_begun past)) call) (begun_of (suc (calls_begun past)) call does) refl []
            (ap (λ z. (calls_of (take (lines_gone past) (lines_of script (Host host))) ++ z) ++ call ∷ []) none_implied
            ∙ (ap (λ z. z ++ call ∷ []) (append-nil _)
            ∙ (ap (λ z. calls_of (take (lines_gone past) (lines_of script (Host host))) ++ z) (sym (ap call_in q))
            ∙ (sym more ∙ sym (append-nil _))))) (inl refl) tt (λ st. refl)
        by (Raise flag) q x =
            let bare = subst (DoesLine (servers_of script.roster) past s) q x in
            none_in (ap call_in q) (ap (λ (z : Step). begun_as z.asked z.answers) bare)
        by (Await flag) q x =
            let bare = subst (DoesLine (servers_of script.roster) past s) q x in
            none_in (ap call_in q) (ap (λ (z : Step). begun_as z.asked z.answers) bare)
        by Stop q x =
            let stop = subst (DoesLine (servers_of script.roster) past s) q x in
            none_in (ap call_in q)
            (ap (λ (o : Option Asked). begun_as o s.answers) stop.2 ∙ ap first_in stop.3)
        by Restarts q x = elim (subst (DoesLine (servers_of script.roster) past s) q x) [ ]

    by_end : s.cause ≡ End → BegunByLines (lines_of script (Host host)) (s ∷ past)
    by_end e = elim begun_cases [
      | inl none ↦ quiet no_line (gone_same End e refl) none
      | inr x ↦ one_more x.0 x.1 (m.ends.implied x.0.k x.0.call e x.2).0 (b.implied ++ x.0.call ∷ [])
          (append_assoc (calls_of (take (lines_gone past) (lines_of script (Host host)))) b.implied (x.0.call ∷ [])
          ∙ ap (λ n. calls_of (take n (lines_of script (Host host))) ++ (b.implied ++ x.0.call ∷ [])) (sym (gone_same End e refl)))
          (inr (gone_same End e refl ∙ (m.ends.after e).0))
          (each_push b.implied x.0.call b.ends (is_end x.0 x.2)) (λ st. absurd (goes_on no_line st))
    ]
      where
        no_line : (n : ℕ) → s.cause ≡ LineOf n → ⊥
        no_line n q = let r : End ≡ LineOf n = sym e ∙ q in cc

        is_end : (x : Asked) → BeginsCall s x.k x.call → IsEnd x.call
        is_end x begins =
            let k = (m.ends.implied x.k x.call e begins).1 in
            subst IsEnd (sym k.2) (ends_is_end k.0)

    next_step : BegunByLines (lines_of script (Host host)) (s ∷ past)
    next_step = by s.cause refl
      where
        by : (c : Cause) → s.cause ≡ c → BegunByLines (lines_of script (Host host)) (s ∷ past)
        by (LineOf n) e = by_line n e
        by (Restart n) e = absurd (m.lines.no_server.0 n e)
        by (Came x) e = quiet (λ n q. let r : Came x ≡ LineOf n = sym e ∙ q in cc) (gone_same (Came x) e refl)
            (no_begin (λ n q. let r : Came x ≡ LineOf n = sym e ∙ q in cc) (λ q. let r : Came x ≡ End = sym e ∙ q in cc))
        by Lapse e = quiet (λ n q. let r : Lapse ≡ LineOf n = sym e ∙ q in cc) (gone_same Lapse e refl)
            (no_begin (λ n q. let r : Lapse ≡ LineOf n = sym e ∙ q in cc) (λ q. let r : Lapse ≡ End = sym e ∙ q in cc))
        by Evict e = quiet (λ n q. let r : Evict ≡ LineOf n = sym e ∙ q in cc) (gone_same Evict e refl)
            (no_begin (λ n q. let r : Evict ≡ LineOf n = sym e ∙ q in cc) (λ q. let r : Evict ≡ End = sym e ∙ q in cc))
        by (Freight freight) e = quiet (λ n q. let r : Freight freight ≡ LineOf n = sym e ∙ q in cc) (gone_same (Freight freight) e refl)
            (no_begin (λ n q. let r : Freight freight ≡ LineOf n = sym e ∙ q in cc) (λ q. let r : Freight freight ≡ End = sym e ∙ q in cc))
        by End e = by_end e
        by Flushed e = absurd (m.lines.no_server.1 e)

pub calls_are_of_lines : CallsAreOfLines
calls_are_of_lines script host [] run = record {
  implied = [];
  calls = refl;
  late = inl refl;
  numbers = tt;
  count = refl;
  ends = tt;
  stopped = λ st. refl;
}
calls_are_of_lines script host (s ∷ past) run = next_step script host past s run.1 (calls_are_of_lines script host past run.0)

pub ended_runs : EndedRunsBeginAll
ended_runs script journal host run ended part =
    let b = calls_are_of_lines script host (steps_of_host host (past_of journal))
    (own_run script run.start (firsts_of journal) (past_of journal) run.steps host) in
    let gone = (ended.hosts host part).0 in (
      b.implied,
      b.calls ∙ ap (λ z. calls_of z ++ b.implied)
          (ap (λ n. take n (lines_of script (Host host))) gone ∙ take_all (length (lines_of script (Host host))) (lines_of script (Host host)) (omega arith)),
      b.numbers,
      b.ends,
      b.stopped,
    )
