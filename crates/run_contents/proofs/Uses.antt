-- In a run each host's steps meet the rules of labels.
use Rattle.std.proofs.Common.{◌≡◌, ℕ, ◌⊎◌, Bool, true, false, if◌then◌else◌, Some, None, List, [], ◌∷◌, inl, inr, sym}
use Rattle.std.proofs.Common.{◌∙◌, ap, subst, refl, arith}
use Rattle.std.proofs.lemmas.Bool.{false≢true}
use Rattle.std.specs.Prelude.{max, not, ◌<◌}
use Rattle.base_types.specs.Name.{same_name}
use Rattle.base_types.specs.declared.ids.HostId.{HostId}
use Rattle.base_types.specs.declared.ids.Node.{Node}
use Rattle.base_types.specs.declared.ids.Node.TheVariants.{Host, Server}
use Rattle.base_types.specs.declared.ids.OpenKind.{OpenKind}
use Rattle.base_types.specs.declared.ids.ServerId.{ServerId}
use Rattle.base_types.specs.declared.span.Span.{Span}
use Rattle.base_types.specs.declared.user.User.{User}
use Rattle.tree_calls.specs.declared.call.Call.{Call}
use Rattle.tree_calls.specs.declared.call.Call.TheVariants.{CloseFile, Lock as LockCall, OpenFile, Unlock}
use Rattle.tree_calls.specs.declared.reply.Refusal.{Refusal}
use Rattle.tree_calls.specs.declared.reply.Refusal.TheVariants.{NotLocked, NotOpened}
use Rattle.tree_calls.specs.declared.reply.Reply.{Reply}
use Rattle.tree_calls.specs.declared.reply.Reply.TheVariants.{Ok as Fine, Refused}
use Rattle.tree_filesets.proofs.Names.{names_equal, same_self}
use Rattle.need_host.specs.Calls.{Own, call_look, refuse, reply_now}
use Rattle.need_host.specs.Calls.Verdict.{Frees, Gives}
use Rattle.need_host.specs.Looks.{View, outcome}
use Rattle.need_host.specs.Looks.Look.{Ends}
use Rattle.tree_answers.specs.Locks.{has_lock}
use Rattle.tree_answers.specs.Opens.{has_open}
use Rattle.tree_answers.specs.declared.tree.Tree.{Tree}
use Rattle.message_types.specs.declared.giving.Give.{Give}
use Rattle.script_lines.specs.declared.script.Script.{Script}
use Rattle.token_types.specs.declared.token.Kind.{Kind}
use Rattle.token_types.specs.declared.token.Kind.TheVariants.{Bytes, Lock, Opening, Status}
use Rattle.token_types.specs.declared.token.Token.{Token}
use Rattle.run_tokens.proofs.TokenRun.{token_run}
use Rattle.run_rules.specs.HostMay.{HostMay, IsExact}
use Rattle.run_rules.specs.Messages.{HasKeptToken}
use Rattle.run_rules.specs.Past.{In}
use Rattle.run_rules.specs.Runs.{IsRun, StepMeets, StepsMeet, firsts_of, past_of}
use Rattle.run_rules.specs.Steps.{steps_of_host}
use Rattle.run_rules.specs.Tokens.{EndsUse, GivesUse, HasEndedUse, Held, LabelInUse, Made, TokenInUse, end_call}
use Rattle.run_rules.specs.Tokens.{end_of}
use Rattle.run_rules.specs.Views.{NeedsServer, sees as host_sees}
use Rattle.run_tokens.specs.TokenLaws.{IsTokenRun}
use Rattle.run_parts.proofs.LabelWords.{HasBegun}
use Rattle.run_rules.specs.declared.journal.Journal.{Journal}
use Rattle.run_parts.specs.Uses.{HostUses, StepUses, UsesRun}
use Rattle.run_contents.proofs.Calls.{gives_none, stays, use_owned}
use Rattle.run_contents.proofs.Gives.{owns_held}
use Rattle.run_contents.proofs.Runs.{own_run}
use Rattle.run_contents.proofs.Views.{one_alone}
use Rattle.run_contents.specs.Steps.{HostRun}
use Rattle.run_rules.specs.declared.applied.Answer.{Answer}
use Rattle.run_rules.specs.declared.step.Labelled.{Labelled}
use Rattle.run_rules.specs.declared.step.Step.{Step}

-- a lock or an open token
abbrev pub IsUse : Kind → Type 0
IsUse k = ((w : Bool) × (span : Span) × (k ≡ Lock w span)) ⊎ ((o : OpenKind) × (k ≡ Opening o))

pub exact_use : (call : Call) (u : Labelled) → IsExact call u → IsUse u.token.kind
exact_use (LockCall label place writing from len) u x = inl (writing, x.1.0, x.1.1)
exact_use (OpenFile label place kind) u x = inr (kind, x.1)
exact_use _ u x = elim x [ ]

-- two labels with one end have one name
pub end_label : (k l : Kind) (a b : List ℕ) → end_call k a ≡ end_call l b → a ≡ b
end_label (Opening j) (Opening k) a b e = let q : CloseFile a ≡ CloseFile b = e in cc
end_label (Opening j) (Bytes u s) a b e = absurd (let q : CloseFile a ≡ Unlock b = e in cc)
end_label (Opening j) (Status u) a b e = absurd (let q : CloseFile a ≡ Unlock b = e in cc)
end_label (Opening j) (Lock w s) a b e = absurd (let q : CloseFile a ≡ Unlock b = e in cc)
end_label (Bytes u s) (Opening k) a b e = absurd (let q : Unlock a ≡ CloseFile b = e in cc)
end_label (Status u) (Opening k) a b e = absurd (let q : Unlock a ≡ CloseFile b = e in cc)
end_label (Lock w s) (Opening k) a b e = absurd (let q : Unlock a ≡ CloseFile b = e in cc)
end_label (Bytes u s) (Bytes v r) a b e = let q : Unlock a ≡ Unlock b = e in cc
end_label (Bytes u s) (Status v) a b e = let q : Unlock a ≡ Unlock b = e in cc
end_label (Bytes u s) (Lock v r) a b e = let q : Unlock a ≡ Unlock b = e in cc
end_label (Status u) (Bytes v r) a b e = let q : Unlock a ≡ Unlock b = e in cc
end_label (Status u) (Status v) a b e = let q : Unlock a ≡ Unlock b = e in cc
end_label (Status u) (Lock v r) a b e = let q : Unlock a ≡ Unlock b = e in cc
end_label (Lock w s) (Bytes v r) a b e = let q : Unlock a ≡ Unlock b = e in cc
end_label (Lock w s) (Status v) a b e = let q : Unlock a ≡ Unlock b = e in cc
end_label (Lock w s) (Lock v r) a b e = let q : Unlock a ≡ Unlock b = e in cc

-- the look of a call that ends a use which the server has to take doesn't end in ok
ends_so : (view : View) (used gives : Bool) (refusal : Refusal) → gives ≡ true
    → reply_now (outcome view (if not used then refuse refusal else Ends (if gives then Gives else Frees))) ≡ Some Fine
    → ⊥
ends_so view true true refusal e q = let k : None ≡ Some Fine = q in cc
ends_so view true false refusal e q = false≢true e
ends_so view false gives refusal e q = let k : Some (Refused refusal) ≡ Some Fine = q in cc

unlock_so : (view : View) (own : Own) (host : HostId) (user : User) (label : List ℕ) → own.gives_lock label ≡ true
    → reply_now (outcome view (call_look own host user (Unlock label))) ≡ Some Fine → ⊥
unfolding call_look
unlock_so view own host user label gives e =
    ends_so view (has_lock own.locks host label) (own.gives_lock label) NotLocked gives e

close_so : (view : View) (own : Own) (host : HostId) (user : User) (label : List ℕ) → own.gives_open label ≡ true
    → reply_now (outcome view (call_look own host user (CloseFile label))) ≡ Some Fine → ⊥
unfolding call_look
close_so view own host user label gives e =
    ends_so view (has_open own.opens host label) (own.gives_open label) NotOpened gives e

module _ (script : Script) (host : HostId) where
  -- what began has a lock or an open token
  pub begun_use : (past : List Step) → HostRun script host past → (u : Labelled) → HasBegun past u → IsUse u.token.kind
  begun_use [] run u b = elim b [ ]
  begun_use (s ∷ past) run u (inl i) =
      let b = run.1.answers.begins u i in exact_use b.0.call u b.3
  begun_use (s ∷ past) run u (inr b) = begun_use past run.0 u b

  pub used_begun : (past : List Step) (u : Labelled) → LabelInUse past u → HasBegun past u
  used_begun [] u i = i
  used_begun (s ∷ past) u (inl i) = inl i
  used_begun (s ∷ past) u (inr x) = inr (used_begun past u x.0)

  pub ended_begun : (past : List Step) (u : Labelled) (g : Give) → HasEndedUse past g u → HasBegun past u
  ended_begun [] u g e = elim e [ ]
  ended_begun (s ∷ past) u g (inl x) = inr (used_begun past u x.1)
  ended_begun (s ∷ past) u g (inr e) = inr (ended_begun past u g e)

  pub ended_gives : (past : List Step) (u : Labelled) (g : Give) → HasEndedUse past g u → Made past g × GivesUse g u
  ended_gives [] u g e = elim e [ ]
  ended_gives (s ∷ past) u g (inl x) = (inl x.0, x.2)
  ended_gives (s ∷ past) u g (inr e) = let x = ended_gives past u g e in (inr x.0, x.1)

  -- of two held tokens with one number each is the other
  one_held : (past : List Step) → HostRun script host past → (t u : Token) → Held past t → Held past u → t.id ≡ u.id
      → t ≡ u
  one_held [] run t u a b e = elim a [ ]
  one_held (s ∷ past) run t u a b e = go (λ h k. one_held past run.0 t u h k e) a.0 b.0
    where
      go : (Held past t → Held past u → t ≡ u) → In t s.taken ⊎ Held past t → In u s.taken ⊎ Held past u → t ≡ u
      go all (inl i) (inl j) = run.1.takes.once t u i j e
      go all (inl i) (inr h) = absurd ((run.1.tokens.takes t i).4 (u, h, sym e))
      go all (inr h) (inl j) = absurd ((run.1.tokens.takes u j).4 (t, h, e))
      go all (inr h) (inr k) = all h k

  module _ (past : List Step) (s : Step) (run : HostRun script host past) (m : HostMay script host past s) where
    held_used : (u : Labelled) → LabelInUse past u → Held past u.token
    held_used u i = owns_held script host past run m.tokens.live u.token (use_owned script host past run u i)

    one_used : (u w : Labelled) → LabelInUse past u → LabelInUse past w → u.token.id ≡ w.token.id → u.label ≡ w.label → u ≡ w
    one_used u w a b id label =
        let token : u.token ≡ w.token =
        one_held past run u.token w.token (held_used u a) (held_used w b) id in
        λ i. record { label = label i; token = token i }

    -- a use that the server has to take isn't ended by an answer
    not_ended : (u : Labelled) → EndsUse s u → HasBegun past u → NeedsServer past s u → ⊥
    not_ended u (a, i, call, fine) begun needs = go (begun_use past run u begun)
      where
        settled : reply_now (outcome (host_sees past s) (call_look m.stance.own host m.stance.user (end_of u)))
            ≡ Some Fine
        settled = subst (λ (y : Call × Reply).
            reply_now (outcome (host_sees past s) (call_look m.stance.own host m.stance.user y.0)) ≡ Some y.1)
            (λ j. (call j, fine j)) (m.answers.answers a i).2.settled

        go : IsUse u.token.kind → ⊥
        go (inl (w, span, kind)) =
            unlock_so (host_sees past s) m.stance.own host m.stance.user u.label
            ((m.stance.knows.gives_lock u.label).1 (
              record { host = host; label = u.label; fid = u.token.fid; writing = w; span = span },
              u,
              refl,
              (refl, refl, refl, kind),
              needs,
            ))
            (subst (λ (k : Kind). reply_now (outcome (host_sees past s)
            (call_look m.stance.own host m.stance.user (end_call k u.label))) ≡ Some Fine) kind settled)
        go (inr (o, kind)) =
            close_so (host_sees past s) m.stance.own host m.stance.user u.label
            ((m.stance.knows.gives_open u.label).1 (
              record { host = host; label = u.label; fid = u.token.fid; kind = o },
              u,
              refl,
              (refl, refl, refl, kind),
              needs,
            ))
            (subst (λ (k : Kind). reply_now (outcome (host_sees past s)
            (call_look m.stance.own host m.stance.user (end_call k u.label))) ≡ Some Fine) kind settled)

    -- names are told apart
    same_label : (a b : List ℕ) → ((a ≡ b → ⊥) → ⊥) → a ≡ b
    same_label a b never = go (same_name a b) refl
      where
        go : (q : Bool) → same_name a b ≡ q → a ≡ b
        go true e = names_equal a b e
        go false e = absurd (never (λ z. false≢true (sym e
            ∙ (ap (λ y. same_name a y) (sym z) ∙ same_self a))))

    ends' : (u : Labelled) → EndsUse s u → LabelInUse past u → HasKeptToken past u.token.id
        → (TokenInUse (s ∷ past) u.token.id → ⊥) → ⊥
    ends' u ends i kept none =
        not_ended u ends (used_begun past u i) (inl ((i, last), kept))
      where
        last : (w : Labelled) → LabelInUse past w → w.token.id ≡ u.token.id → w ≡ u
        last w j id = one_used w u j i id (same_label w.label u.label (λ two. still w j id two))
          where
            still : (w : Labelled) → LabelInUse past w → w.token.id ≡ u.token.id → (w.label ≡ u.label → ⊥) → ⊥
            still w j id two = none (
              w,
              inr (
                j,
                (λ e. two (end_label w.token.kind u.token.kind w.label u.label
                    (sym e.2 ∙ (ap (λ (z : Answer). z.call)
                    (one_alone s.answers m.answers.answers_one e.0 ends.0 e.1 ends.1) ∙ ends.2)))),
                λ g k _. gives_none script host past s run m ends.0 ends.1 g k,
              ),
              id,
            )

    pub host_uses : HostUses past s
    host_uses = record {
      begins = λ u i. (let b = m.answers.begins u i in
          stays script host past s run m b.0 b.1 u.token b.4);
      stay = record {
        returns_idle = m.revoked.returns_idle;
        makes_ends = m.gives.ends_used;
        keeps = λ i q. (m.revoked.keeps i q).1;
      };
      ends = ends';
      ends_apart = λ u g ends i gives. gives_none script host past s run m ends.0 ends.1 g i;
      ends_known = λ u g ends ended never.
          not_ended u ends (ended_begun past u g ended) (inr (g, ended, never));
    }

module _ (script : Script) (start : Tree) (firsts : ServerId → ℕ) where
  at_node : (n : Node) (past : List Step) (s : Step) → StepsMeet script start firsts past
      → StepMeets script start firsts n past s → StepUses n past s
  at_node (Host h) past s steps m =
      host_uses script h (steps_of_host h past) s (own_run script start firsts past steps h) m.0
  at_node (Server v) past s steps m = tt

  pub uses_run : (past : List Step) → StepsMeet script start firsts past → UsesRun past
  uses_run [] steps = tt
  uses_run (s ∷ past) steps = (uses_run past steps.0, at_node s.node past s steps.0 steps.1.0)

pub run_uses : (script : Script) (journal : Journal) → IsRun script journal → UsesRun (past_of journal)
run_uses script journal run = uses_run script run.start (firsts_of journal) (past_of journal) run.steps

from_one : (n : ℕ) → 0 < max 1 n
from_one n = omega arith

pub run_tokens : (script : Script) (journal : Journal) → IsRun script journal
    → IsTokenRun (firsts_of journal) (past_of journal)
run_tokens script journal run =
    token_run script run.start (firsts_of journal) (past_of journal) (λ v. from_one _) run.steps
