-- All rules of a host's step, computed.
use Rattle.std.proofs.Common.{Bool, List, Some, [], refl, ◌&&◌, ◌==◌, ◌∷◌, ◌≡◌, true}
use Rattle.base_types.specs.declared.ids.HostId.{HostId}
use Rattle.base_types.specs.declared.ids.ServerId.{ServerId}
use Rattle.base_types.specs.declared.ids.Node.TheVariants.{Host}
use Rattle.base_types.specs.declared.user.User.{User}
use Rattle.tree_calls.specs.Rosters.{user_of}
use Rattle.script_lines.specs.declared.script.Script.{Script}
use Rattle.base_types.specs.Ids.{same_fid}
use Rattle.base_types.specs.declared.ids.Fid.{Fid}
use Rattle.message_types.specs.Soundness.{no_fid}
use Rattle.message_types.specs.declared.giving.Give.{Give}
use Rattle.message_types.specs.declared.message.Body.{Body}
use Rattle.message_types.specs.declared.message.Body.TheVariants.{GiveBack, Kept, Returned}
use Rattle.message_types.specs.declared.message.Message.{Message}
use Rattle.std.proofs.lemmas.Bool.{and_from, and_parts}
use Rattle.std.specs.List.{list_all}
use Rattle.std.specs.Prelude.{map, not}
use Rattle.run_rules.specs.HostDue.{CallsDue, HostDue}
use Rattle.run_rules.specs.HostMay.{HostMay}
use Rattle.run_rules.specs.Past.{EachOnce}
use Rattle.run_rules.specs.Plans.{kind_of}
use Rattle.run_rules.specs.Steps.{limit_of, lines_of, servers_of}
use Rattle.run_examples.specs.Laws.{Does}
use Rattle.run_rules.specs.declared.step.Step.{Step}
use Rattle.run_examples.proofs.Tests.{all_true, apart, at_all, fids, ids, is_not, passes, same_is}
use Rattle.run_examples.proofs.TokenChecks.{token_tests, tokens_meet}
use Rattle.run_examples.proofs.StanceChecks.{once_from, stance_of, stance_tests}
use Rattle.run_examples.proofs.AnswerChecks.{answer_tests, answers_meet, frees_meet, syncs_meet}
use Rattle.run_examples.proofs.AskTests.{all_asked, asking_tests, greets_right_at}
use Rattle.run_examples.proofs.GiveChecks.{give_tests, gives_meet, recall_tests, revoked_meet, revokes_due}
use Rattle.run_examples.proofs.LapseChecks.{repeats_due, resend_tests, resends_meet, same_token_id, take_tests, taken_once, takes_meet}
use Rattle.run_examples.proofs.LeaveChecks.{end_tests, ends_meet, leave_tests, leaves_due, leaves_meet, line_tests}
use Rattle.run_examples.proofs.LeaveChecks.{lines_meet}
use Rattle.run_examples.proofs.LabelWords.{is_local}

-- messages that may be equal: of one kind, and of one file
abbrev pub file_in : Body → Fid
file_in (Returned named) = named.fid
file_in (Kept named) = named.fid
file_in (GiveBack give) = give.fid
file_in _ = no_fid

abbrev pub are_alike : Message → Message → Bool
are_alike m k = (kind_of m.body == kind_of k.body) && same_fid (file_in m.body) (file_in k.body)

-- give-backs of one file
abbrev pub same_gift : Give → Give → Bool
same_gift g k = same_fid g.fid k.fid

pub sent_once : (ms : List Message) → apart are_alike ms ≡ true → EachOnce ms
sent_once [] e = tt
sent_once (m ∷ ms) e =
    let test = λ (k : Message). not (are_alike m k) && not (are_alike k m) in
    let p = and_parts (list_all test ms) (apart are_alike ms) e in (
      λ i. is_not (are_alike m m) (and_parts (not (are_alike m m)) (not (are_alike m m)) (at_all test ms m p.0 i)).0
          (and_from (kind_of m.body == kind_of m.body) (same_fid (file_in m.body) (file_in m.body))
          (same_is (kind_of m.body)) (fids (file_in m.body) (file_in m.body) refl)),
      sent_once ms p.1,
    )

pub calls_due : (site : ServerId) (script : Script) (host : HostId) (user : User) (past : List Step) (s : Step)
    (acts : user_of script.roster host ≡ Some user) (known : passes (stance_tests site host past s) ≡ true)
    → passes (answer_tests site host user past s) ≡ true → passes (asking_tests site host user past s) ≡ true
    → CallsDue script.roster host past s (stance_of site script.roster host user past s acts known)
calls_due site script host user past s acts known answered asked = record {
  syncs = λ k place fid t turn found h f d. syncs_meet site script.roster host user past s acts known answered k place t
      turn h d;
  frees = frees_meet site script.roster host user past s acts known answered;
  greets = greets_right_at site script.roster host user past s acts known asked;
}

unfoldable pub host_tests : ServerId → Script → HostId → User → List Step → Step → List Bool
host_tests site script host user past s =
    passes (stance_tests site host past s)
    ∷ passes (token_tests site past s)
    ∷ passes (take_tests past s)
    ∷ passes (answer_tests site host user past s)
    ∷ passes (asking_tests site host user past s)
    ∷ passes (give_tests site past s)
    ∷ passes (recall_tests past s)
    ∷ passes (resend_tests site past s)
    ∷ passes (leave_tests site user past s)
    ∷ passes (line_tests site (lines_of script (Host host)) (servers_of script.roster)
    (limit_of script.roster host) past s)
    ∷ passes (end_tests site (lines_of script (Host host)) (limit_of script.roster host) past s)
    ∷ is_local site past
    ∷ apart are_alike s.sent
    ∷ apart same_token_id (map (λ l. l.token) s.dropped)
    ∷ apart same_gift s.made
    ∷ []

pub host_meets : (site : ServerId) (script : Script) (host : HostId) (user : User) (past : List Step) (s : Step)
    → user_of script.roster host ≡ Some user → passes (host_tests site script host user past s) ≡ true
    → HostMay script host past s
unfolding host_tests
host_meets site script host user past s acts e =
    let t = all_true (host_tests site script host user past s) e in
    record {
      tokens = tokens_meet site past s t.1.0;
      takes = takes_meet past s t.1.1.0;
      stance = stance_of site script.roster host user past s acts t.0;
      answers = answers_meet site script.roster host user past s acts t.0 t.1.1.1.0;
      asks = all_asked site script.roster host user past s acts t.0 t.1.1.1.1.0;
      gives = gives_meet site past s t.1.1.1.1.1.0;
      revoked = revoked_meet past s t.1.1.1.1.1.1.0;
      resends = resends_meet site past s t.1.1.1.1.1.1.1.0;
      leaves = leaves_meet site script.roster host user past s acts t.0 t.1.1.1.1.1.1.1.1.1.1.1.0
          (limit_of script.roster host) t.1.1.1.1.1.1.1.1.0;
      lines = lines_meet site (lines_of script (Host host)) (servers_of script.roster)
          (limit_of script.roster host) past s t.1.1.1.1.1.1.1.1.1.0;
      ends = ends_meet site (lines_of script (Host host)) (limit_of script.roster host) past s t.1.1.1.1.1.1.1.1.1.1.0;
    }

pub host_due : (site : ServerId) (script : Script) (host : HostId) (user : User) (past : List Step) (s : Step)
    → user_of script.roster host ≡ Some user → passes (host_tests site script host user past s) ≡ true
    → HostDue script host past s
unfolding host_tests
host_due site script host user past s acts e =
    let t = all_true (host_tests site script host user past s) e in
    record {
      stance = stance_of site script.roster host user past s acts t.0;
      calls = calls_due site script host user past s acts t.0 t.1.1.1.0 t.1.1.1.1.0;
      revokes = revokes_due past s (tokens_meet site past s t.1.0) t.1.1.1.1.1.1.0;
      repeats = repeats_due site past s t.1.1.1.1.1.1.1.0;
      leaves = leaves_due site user (lines_of script (Host host)) (limit_of script.roster host) past s
          t.1.1.1.1.1.1.1.1.0 t.1.1.1.1.1.1.1.1.1.1.0;
      once = sent_once s.sent t.1.1.1.1.1.1.1.1.1.1.1.1.0;
      once_taken = taken_once past s t.1.1.0;
      once_dropped = once_from same_token_id (map (λ l. l.token) s.dropped) (λ k. ids k.id k.id refl)
          t.1.1.1.1.1.1.1.1.1.1.1.1.1.0;
      once_made = once_from same_gift s.made (λ g. fids g.fid g.fid refl) t.1.1.1.1.1.1.1.1.1.1.1.1.1.1.0;
    }

pub host_does : (site : ServerId) (script : Script) (host : HostId) (user : User) (past : List Step) (s : Step)
    → user_of script.roster host ≡ Some user → passes (host_tests site script host user past s) ≡ true
    → Does script host past s
host_does site script host user past s acts e =
    (host_meets site script host user past s acts e, host_due site script host user past s acts e)
