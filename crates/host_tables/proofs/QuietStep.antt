-- A quiet step does what it may, and the tables stand after it.
use Rattle.base_types.specs.declared.ids.Fid.{Fid}
use Rattle.base_types.specs.declared.ids.FilesetId.{FilesetId}
use Rattle.base_types.specs.declared.ids.HostId.{HostId}
use Rattle.base_types.specs.declared.ids.ServerId.{ServerId}
use Rattle.base_types.specs.declared.user.User.{User}
use Rattle.host_tables.proofs.Letting.{leaves_may}
use Rattle.host_tables.proofs.Lists.{none_in}
use Rattle.host_tables.proofs.Quiet.{quiet_settles}
use Rattle.host_tables.proofs.Settling.{settles_right}
use Rattle.host_tables.specs.Answering.{AnswersNone}
use Rattle.host_tables.specs.Causes.{CauseMay}
use Rattle.host_tables.specs.Giving.{GivesBack}
use Rattle.host_tables.specs.Half.{half}
use Rattle.host_tables.specs.Letting.{Keeping, Sending}
use Rattle.host_tables.specs.Quiet.{IsQuiet, Moved, MovesRight, with_moved}
use Rattle.host_tables.specs.QuietStep.{IsOfTables, QuietMay, QuietRight}
use Rattle.host_tables.specs.Sending.{MaySend, NotAlone}
use Rattle.host_tables.specs.Stands.{AsksFrom, IsAtRest, IsCoveredFrom, IsLack, IsWaiting, RequestStands, Stands}
use Rattle.host_tables.specs.Stands.{verdict_from}
use Rattle.host_tables.specs.Stands.IsWaiting.{ForDone, ForFile, ForGone, ForGrant, ForNeed, ForQuestion}
use Rattle.host_tables.specs.Tables.{held_of}
use Rattle.host_tables.specs.declared.calls.Request.{Request}
use Rattle.host_tables.specs.declared.calls.Request.TheVariants.{Change as AChange, Fetch as AFetch}
use Rattle.host_tables.specs.declared.tables.Tables.{Tables}
use Rattle.message_types.specs.declared.asking.Change.{Change as ChangeOf}
use Rattle.message_types.specs.declared.asking.Fetch.{Fetch as FetchOf}
use Rattle.message_types.specs.declared.giving.Give.{Give}
use Rattle.message_types.specs.declared.message.Message.{Message}
use Rattle.need_host.specs.Calls.{Own, Verdict, call_look}
use Rattle.need_host.specs.Calls.Verdict.{Asks, Gives}
use Rattle.need_host.specs.Looks.{IsCovered, IsFirstLack, needs_of, outcome}
use Rattle.need_host.specs.Questions.{Question}
use Rattle.run_rules.specs.HostAsks.{AsksServer, FirstLack}
use Rattle.run_rules.specs.HostMay.{HostMay}
use Rattle.run_rules.specs.Messages.{Asking, Changing, ReturnsToken, stay_of}
use Rattle.run_rules.specs.Past.{In}
use Rattle.run_rules.specs.Tokens.{Drops, HasCall, IsOpen, LeavesHost}
use Rattle.run_rules.specs.Views.{Stance, look_of, sees, stay_asked, verdict_in}
use Rattle.run_rules.specs.declared.step.Asked.{Asked}
use Rattle.run_rules.specs.declared.step.Step.{Step}
use Rattle.script_lines.specs.declared.script.Script.{Script}
use Rattle.std.proofs.Common.{List, Option, Some, ap, inl, inr, refl, subst, sym, ℕ, ◌∙◌, ◌∷◌, ◌≡◌}
use Rattle.token_types.specs.declared.token.Need.{Need}
use Rattle.token_types.specs.declared.token.Token.{Token}
use Rattle.tree_calls.specs.declared.call.Call.{Call}
use Rattle.host_tables.proofs.Answered as answered

fetch_is : (f k : FetchOf) → Some (AFetch f) ≡ Some (AFetch k) → f ≡ k
fetch_is f k e = cc

change_is : (v w : ServerId) (c k : ChangeOf) → Some (AChange v c) ≡ Some (AChange w k) → c ≡ k
change_is v w c k e = cc

-- one request is outstanding
pub one_fetch : (request : Option Request) (past : List Step) → RequestStands request past
    → (fs gs : FilesetId) (n k : ℕ) → Asking past fs n → Asking past gs k → (fs ≡ gs) × (n ≡ k)
one_fetch request past stands fs gs n k a b =
    let x = stands.asking fs n a in let y = stands.asking gs k b in
    let q = fetch_is x.0 y.0 (sym x.1 ∙ y.1) in
    (sym x.2 ∙ (ap (λ (f : FetchOf). f.fid.fileset) q ∙ y.2), sym x.3 ∙ (ap (λ (f : FetchOf). f.number) q ∙ y.3))

pub one_change : (request : Option Request) (past : List Step) → RequestStands request past
    → (v w : ServerId) (fs gs : FilesetId) (n k : ℕ) → Changing past v fs n → Changing past w gs k → (fs ≡ gs) × (n ≡ k)
one_change request past stands v w fs gs n k a b =
    let x = stands.changing v fs n a in let y = stands.changing w gs k b in
    let q = change_is x.0 y.0 x.1 y.1 (sym x.2 ∙ y.2) in
    (sym x.3 ∙ (ap (λ (c : ChangeOf). c.fileset) q ∙ y.3), sym x.4 ∙ (ap (λ (c : ChangeOf). c.number) q ∙ y.4))

pub one_of_both : (request : Option Request) (past : List Step) → RequestStands request past
    → (v : ServerId) (fs gs : FilesetId) (n k : ℕ) → Asking past fs n → Changing past v gs k → ⊥
one_of_both request past stands v fs gs n k a b =
    let x = stands.asking fs n a in let y = stands.changing v gs k b in
    let e : Some (AFetch x.0) ≡ Some (AChange y.0 y.1) = sym x.1 ∙ y.2 in absurd (cc)

module _ (script : Script) (m : Tables) (x : Moved) (past : List Step) (s : Step)
    (learnt : Stands script m (half s ∷ past))
    (quiet : IsQuiet s) (moves : MovesRight m x past s) (cause : CauseMay script m.host past s)
    (returns : (t : Token) → In t (held_of m) → ReturnsToken s t.id → ⊥)
    (may : (stance : Stance script.roster m.host past s) → IsOfTables script.roster m past s stance
    → (y : Message) → In y s.sent → MaySend script.roster m.host past s stance y)
    (rest : IsAtRest (with_moved m x) (s ∷ past)) where
  none_made : (g : Give) → In g s.made → ⊥
  none_made g i = none_in s.made quiet.made g i

  none_dropped : (t : Token) → Drops s t → ⊥
  none_dropped t d = none_in s.dropped quiet.dropped d.0 d.1

  -- the call that is open is that of the tables
  open_is : (c : Asked) → IsOpen (s ∷ past) c → x.call ≡ Some c
  open_is c (inl e) = moves.call_asked c e
  open_is c (inr o) = moves.call_stays c (learnt.call.asked c (inr (o.0, o.1, λ a i. elim i [ ])))

  turn_is : (k : ℕ) (call : Call) → HasCall past s k call → x.call ≡ Some (record { k = k; call = call })
  turn_is k call (inl (inl e)) = moves.call_asked (record { k = k; call = call }) e
  turn_is k call (inl (inr a)) = absurd (none_in s.answers quiet.answers a.0 a.1)
  turn_is k call (inr g) = moves.call_stays (record { k = k; call = call })
      (learnt.call.asked (record { k = k; call = call }) (inr (g.0, g.1, λ a i. elim i [ ])))

  none : AnswersNone m past s
  none = record {
    answers = quiet.answers;
    wrote = quiet.wrote;
    begun = quiet.begun;
    stuck = λ k call t can. rest.stuck (record { k = k; call = call }) (turn_is k call t)
        (record { covered = can.covered; reply = can.reply; settled = can.settled });
  }

  no_leaves : (t : Token) → In t (held_of m) → LeavesHost s t.id → ⊥
  no_leaves t i (inl makes) = none_made makes.0 makes.1
  no_leaves t i (inr r) = returns t i r

  keeping : Keeping m past s (held_of m)
  keeping = record {
    were = λ t i. i;
    stay = λ t i. (no_leaves t i, none_dropped t);
    gone = λ t i. inl i;
    dropped = λ t d. absurd (none_dropped t d);
  }

  gives : GivesBack m past s (held_of m)
  gives = record {
    names = λ g i. absurd (none_made g i);
    rise = λ g i. absurd (none_made g i);
    ids = λ g i j. absurd (none_made g j);
    one = λ g k i. absurd (none_made g i);
    above = λ g i. absurd (none_made g i);
    next = λ g i. absurd (none_made g i);
    apart = λ g k i. absurd (none_made g i);
    has = λ g at y i. absurd (none_made g i);
    saves = λ t fid at d i u. inl (t, i, u);
    length_is = λ g i. absurd (none_made g i);
    saves_length = λ t i k e. inl i;
    ends = λ g e i. absurd (none_made g i);
    ends_used = λ g u i. absurd (none_made g i);
    sends = cause.new_gives;
  }

  module _ (stance : Stance script.roster m.host past s) (from : IsOfTables script.roster m past s stance) where
    -- what the call lacks, and what is made of it, on the stance
    lack_there : (call : Call) (need : Need) → IsLack m call need → FirstLack script.roster m.host past s stance call
        need
    lack_there call need lack =
        subst (λ (q : List Token × Own × User). IsFirstLack q.0 (needs_of (sees past s) (call_look q.1 m.host q.2 call))
        need)
        (λ i. (sym from.kept i, sym from.own i, sym from.user i)) (answered.lack_there script m past s learnt call need
        lack)

    verdict_there : (call : Call) (v : Verdict) → IsCoveredFrom m call → verdict_from m call ≡ v
        → verdict_in stance call ≡ v
    verdict_there call v covered e =
        subst (λ (q : Own × User). outcome (sees past s) (call_look q.0 m.host q.1 call) ≡ v)
        (λ i. (sym from.own i, sym from.user i)) (sym (answered.verdict_is script m past s learnt call covered) ∙ e)

    covered_there : (call : Call) → IsCoveredFrom m call → IsCovered stance.kept (sees past s) (look_of stance call)
    covered_there call covered =
        subst (λ (q : List Token × Own × User). IsCovered q.0 (sees past s) (call_look q.1 m.host q.2 call))
        (λ i. (sym from.kept i, sym from.own i, sym from.user i)) (answered.covered_there script m past s learnt call
        covered)

    pub asks_there : (call : Call) (question : Question) (fid : Fid) → AsksFrom m call question fid
        → AsksServer script.roster m.host past s stance call question fid
    asks_there call question fid (inl (v, c, f)) = inl (verdict_there call (Asks question) c v, covered_there call c, f)
    asks_there call question fid (inr (need, lack, kind, f, q)) = inr (need, lack_there call need lack, kind, f, q)

    -- for what the open call waits
    waits : (c : Asked) → IsWaiting (with_moved m x) (s ∷ past) c.call → NotAlone script.roster m.host past s stance c
    waits c (ForGrant f r) = inl (f.fid.fileset, f.number, (moves.request.fetch f r).1)
    waits c (ForDone v k r) = inr (inl (v, k.fileset, k.number, (moves.request.change v k r).1))
    waits c (ForFile need lack g) = inr (inr (inl (inl (need, lack_there c.call need lack, g))))
    waits c (ForGone g covered verdict made unknown) =
        inr (inr (inl (inr (verdict_there c.call Gives covered verdict, (g, made, unknown)))))
    waits c (ForNeed need lack greeted unwelcome) =
        inr (inr (inr (
          (stay_of (s ∷ past) need.fid.fileset).server,
          inl (need, lack_there c.call need lack, refl),
          greeted,
          unwelcome,
        )))
    waits c (ForQuestion question fid asks greeted unwelcome) =
        inr (inr (inr (
          (stay_asked (s ∷ past) question).server,
          inr (question, fid, asks_there c.call question fid (asks_here asks), refl),
          greeted,
          unwelcome,
        )))
      where
        asks_here : AsksFrom (with_moved m x) c.call question fid → AsksFrom m c.call question fid
        asks_here a = a

    sending : Sending script m.host past s stance
    sending = record {
      may = may stance from;
      asks = λ c o. let e = open_is c o in waits c (rest.waits c e);
      one_fetch = one_fetch x.request (s ∷ past) moves.request;
      one_change = one_change x.request (s ∷ past) moves.request;
      one_of_both = one_of_both x.request (s ∷ past) moves.request;
    }

  pub quietly : HostMay script m.host past s
  quietly = leaves_may script m past s learnt (held_of m) keeping gives none cause
      (λ l i. absurd (none_in s.dropped quiet.dropped l i))
      (λ stance k h o u. sending stance (record { kept = k; held = h; own = o; user = u }))

pub quiet_may : QuietMay
quiet_may script m x past s learnt quiet moves cause returns may rest =
    quietly script m x past s learnt quiet moves cause returns may rest

pub quiet_right : QuietRight
quiet_right script old m x past s same under learnt quiet moves cause returns may rest =
    let done = quietly script m x past s learnt quiet moves cause returns may rest in
    record {
      may = subst (λ (h : HostId). HostMay script h past s) (sym same) done;
      rests = record {
        stands = settles_right script m (with_moved m x) past s learnt done
            (quiet_settles script m x past s learnt under quiet moves);
        rest = rest;
      };
    }
