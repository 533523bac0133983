-- What a server's Dones bring.
use Rattle.std.proofs.Common.{◌≡◌, ℕ, Bool, true, false, if◌then◌else◌, Option, Some, None, List, [], ◌∷◌, inl, inr}
use Rattle.std.proofs.Common.{sym, subst, refl}
use Rattle.std.proofs.lemmas.Bool.{false≢true}
use Rattle.std.specs.Option.{option_map_or}
use Rattle.std.specs.Prelude.{Err, Ok, Result, nat_lt, ◌+◌}
use Rattle.base_types.specs.Outcomes.{and_then}
use Rattle.base_types.specs.declared.ids.HostId.{HostId}
use Rattle.base_types.specs.declared.ids.Node.{Node}
use Rattle.base_types.specs.declared.ids.Node.TheVariants.{Host, Server}
use Rattle.base_types.specs.declared.ids.OpenKind.{OpenKind}
use Rattle.base_types.specs.declared.ids.ServerId.{ServerId}
use Rattle.base_types.specs.declared.limits.TheConstants.{FILE_BYTES_MAX}
use Rattle.base_types.specs.declared.span.Span.{Span}
use Rattle.base_types.specs.declared.user.User.{User}
use Rattle.tree_calls.specs.Rosters.{user_of}
use Rattle.tree_calls.specs.declared.call.Call.{Call}
use Rattle.tree_calls.specs.declared.call.Call.TheVariants.{Lock as LockCall, OpenFile}
use Rattle.tree_calls.specs.declared.reply.Refusal.{Refusal}
use Rattle.tree_calls.specs.declared.reply.Refusal.TheVariants.{TooBig}
use Rattle.tree_filesets.specs.Checks.{unless}
use Rattle.tree_filesets.specs.Uses.{lock_target, open_target}
use Rattle.tree_filesets.specs.declared.fileset.Fileset.{Fileset}
use Rattle.need_host.specs.Shows.{shows}
use Rattle.tree_objects.specs.Spans.{span_between}
use Rattle.tree_answers.specs.Finding.{fileset_named}
use Rattle.tree_answers.specs.declared.tree.Tree.{Tree}
use Rattle.need_server.specs.Wants.{want, want_for, want_in}
use Rattle.message_types.specs.declared.asking.Change.{Change as ChangeOf}
use Rattle.message_types.specs.declared.message.Body.TheVariants.{Done}
use Rattle.message_types.specs.declared.message.Message.{Message}
use Rattle.message_types.specs.declared.telling.Done.{Done as DoneOf}
use Rattle.script_lines.specs.declared.script.Script.{Script}
use Rattle.token_types.specs.Conflicts.{need_of}
use Rattle.token_types.specs.declared.token.Kind.TheVariants.{Lock, Opening}
use Rattle.token_types.specs.declared.token.Need.{Need}
use Rattle.token_types.specs.declared.token.Token.{Token}
use Rattle.tree_laws.specs.Parts.{Part}
use Rattle.tree_laws.specs.Parts.Part.{ByteAt, Entries, Size, Traits}
use Rattle.run_contents.proofs.Words.{one_needed}
use Rattle.run_rules.specs.Doings.{Doing, SentTo, after_admitting, doings_of, epoch, sending}
use Rattle.run_rules.specs.Doings.Doing.{Sent}
use Rattle.run_rules.specs.Kept.{filesets_kept, filesets_through}
use Rattle.run_rules.specs.Past.{EachInTurn, In}
use Rattle.run_rules.specs.Runs.{IsRun, StepMeets, StepsMeet, firsts_of, past_of}
use Rattle.run_rules.specs.ServerMay.{AnsweredSo, DoneFor, MaySend}
use Rattle.run_rules.specs.ServerMay.AnsweredSo.{IsEntered, NamesOther, TakesToken}
use Rattle.run_rules.specs.ServerMay.DoneFor.{Answered, OfWritten, Repeated, TakenBack}
use Rattle.run_rules.specs.ServerTokens.{ServerTokens}
use Rattle.run_rules.specs.Steps.{steps_of_server}
use Rattle.run_rules.specs.Wants.{is_use, row_needs}
use Rattle.run_rules.specs.declared.journal.Journal.{Journal}
use Rattle.run_contents.specs.Laws.{DonesAreBlind, DonesShowNothing, EachSent, SentAtNode}
use Rattle.run_rules.specs.declared.step.Step.{Step}

-- needs that show no part
abbrev Blind : List Need → Type 0
Blind needs = (n : Need) (p : Part) → In n needs → shows n.kind p ≡ true → ⊥

none_blind : Blind []
none_blind n p i e = elim i [ ]

lock_blind : (writing : Bool) (span : Span) (p : Part) → shows (Lock writing span) p ≡ true → ⊥
lock_blind writing span (ByteAt at) e = false≢true e
lock_blind writing span Size e = false≢true e
lock_blind writing span Traits e = false≢true e
lock_blind writing span Entries e = false≢true e

open_blind : (kind : OpenKind) (p : Part) → shows (Opening kind) p ≡ true → ⊥
open_blind kind (ByteAt at) e = false≢true e
open_blind kind Size e = false≢true e
open_blind kind Traits e = false≢true e
open_blind kind Entries e = false≢true e

one_blind : (x : Need) → ((p : Part) → shows x.kind p ≡ true → ⊥) → Blind (x ∷ [])
one_blind x none n p (inl q) e = none p (subst (λ (z : Need). shows z.kind p ≡ true) q e)
one_blind x none n p (inr i) e = elim i [ ]

for_blind : {A : Type 0} (checks : Result A Refusal) (needs : A → List Need) → ((x : A) → Blind (needs x))
    → Blind (want_for checks needs)
for_blind (Ok x) needs each = each x
for_blind (Err refusal) needs each = none_blind

in_blind : (fileset : Fileset) (user : User) (call : Call) → is_use call ≡ true → Blind (want_in fileset user call)
unfolding want_in
in_blind fileset user (LockCall label place writing from len) e =
    for_blind
    (and_then (lock_target fileset user place.path writing) (λ fid.
    unless (nat_lt FILE_BYTES_MAX (from + len)) TooBig (Ok fid)))
    (λ fid. record { fid = fid; kind = Lock writing (span_between from (from + len)) } ∷ [])
    (λ fid. one_blind (record { fid = fid; kind = Lock writing (span_between from (from + len)) })
    (lock_blind writing (span_between from (from + len))))
in_blind fileset user (OpenFile label place kind) e =
    for_blind (open_target fileset user place.path kind) (λ fid. record { fid = fid; kind = Opening kind } ∷ [])
    (λ fid. one_blind (record { fid = fid; kind = Opening kind }) (open_blind kind))
in_blind fileset user _ e = absurd (false≢true e)

want_blind : (tree : Tree) (user : User) (call : Call) → is_use call ≡ true → Blind (want tree user call)
unfolding want
want_blind tree user (LockCall label place writing from len) e =
    for_blind (fileset_named tree place.server place.fileset)
    (λ fileset. want_in fileset user (LockCall label place writing from len))
    (λ fileset. in_blind fileset user (LockCall label place writing from len) refl)
want_blind tree user (OpenFile label place kind) e =
    for_blind (fileset_named tree place.server place.fileset)
    (λ fileset. want_in fileset user (OpenFile label place kind))
    (λ fileset. in_blind fileset user (OpenFile label place kind) refl)
want_blind tree user _ e = absurd (false≢true e)

row_blind : (tree : Tree) (host : HostId) (change : ChangeOf) → is_use change.call ≡ true
    → Blind (row_needs tree host change)
row_blind tree host change e = go change.enter (user_of tree.roster host)
  where
    go : (enters : Bool) (user : Option User)
        → Blind (if enters then [] else option_map_or (λ user. want tree user change.call) user [])
    go true user = none_blind
    go false None = none_blind
    go false (Some user) = want_blind tree user change.call e

no_tokens : (t : Token) (tokens : List Token) → tokens ≡ [] → In t tokens → ⊥
no_tokens t tokens e i = elim (subst (In t) e i) [ ]

module _ (v : ServerId) (tree : Tree) (s : Step) where
  done_blind : (S : List Doing) (h : HostId) (n : ℕ) (d : DoneOf) → DoneFor v tree S h n d → (t : Token) (p : Part)
      → In t d.bring.tokens → shows t.kind p ≡ true → SentTo S h (epoch S) n (Done d)
  done_blind S h n d (OfWritten written none last) t p i cov = absurd (no_tokens t d.bring.tokens none i)
  done_blind S h n d (Repeated sent last) t p i cov = sent
  done_blind S h n d (TakenBack was last outcome none) t p i cov = absurd (no_tokens t d.bring.tokens none i)
  done_blind S h n d (Answered k) t p i cov = absurd (by k.so)
    where
      by : AnsweredSo v tree S k.w k.change d → ⊥
      by (TakesToken uses accepted row can outcome needs) =
          let asked = one_needed k.w.needs d.bring.tokens needs t i in
          row_blind tree k.w.host k.change uses (need_of t) p (subst (In (need_of t)) row.0 asked) cov
      by (NamesOther uses accepted other ready outcome none) = no_tokens t d.bring.tokens none i
      by (IsEntered fileset place enters named known outcome none) = no_tokens t d.bring.tokens none i

  pub one_sent : (S : List Doing) (a : Doing) → MaySend v tree s S a → ServerTokens v S a → DonesAreBlind S a
  one_sent S a sends tokens h e n p d t is i cov =
      subst (λ j. SentTo S h j n (Done d)) (sym (tokens.epochs h e n (Done d) is))
      (done_blind S h n d (sends.done_for h e n d is).2 t p i cov)

  pub each_sent : (ms : List Message) (S : List Doing) → EachInTurn (MaySend v tree s) (sending ms) S
      → EachInTurn (ServerTokens v) (sending ms) S
      → EachSent DonesAreBlind ms S
  each_sent [] S sends tokens = tt
  each_sent (m ∷ ms) S sends tokens = (
    one_sent S (Sent m.host m.epoch m.moves m.body) sends.0 tokens.0,
    each_sent ms (Sent m.host m.epoch m.moves m.body ∷ S) sends.1 tokens.1,
  )

module _ (script : Script) (start : Tree) (firsts : ServerId → ℕ) where
  at_node : (n : Node) (past : List Step) (s : Step) → StepMeets script start firsts n past s
      → SentAtNode firsts n past s
  at_node (Host host) past s m = tt
  at_node (Server v) past s m =
      each_sent v (filesets_through s.cause s.applied (filesets_kept start v (steps_of_server v past))) s s.sent
      (after_admitting s (doings_of (firsts v) v past)) m.0.works.sends m.0.tokens.sends

  pub show_nothing : (past : List Step) → StepsMeet script start firsts past → DonesShowNothing firsts past
  show_nothing [] run = tt
  show_nothing (s ∷ past) run = (show_nothing past run.0, at_node s.node past s run.1.0)

pub dones_show_nothing : (script : Script) (journal : Journal) → IsRun script journal
    → DonesShowNothing (firsts_of journal) (past_of journal)
dones_show_nothing script journal run =
    show_nothing script run.start (firsts_of journal) (past_of journal) run.steps
