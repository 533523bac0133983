-- What a server has said of the Changes that it has written down. Doings have the newest first.
use Rattle.std.proofs.Common.{List, ap, arith, inl, inr, refl, subst, suc, sym, zero, ℕ, ◌<◌, ◌≤◌, ◌∙◌, ◌∷◌, ◌≡◌, ◌⊎◌}
use Rattle.std.specs.Prelude.{[]}
use Rattle.base_types.specs.declared.ids.HostId.{HostId}
use Rattle.base_types.specs.declared.ids.ServerId.{ServerId}
use Rattle.tree_calls.specs.declared.reply.Reply.{Reply}
use Rattle.tree_answers.specs.declared.tree.Tree.{Tree}
use Rattle.message_types.specs.declared.asking.Change.{Change as ChangeOf}
use Rattle.message_types.specs.declared.message.Body.{Body}
use Rattle.message_types.specs.declared.message.Body.TheVariants.{Done}
use Rattle.message_types.specs.declared.message.Message.{Message}
use Rattle.message_types.specs.declared.telling.Done.{Done as DoneOf}
use Rattle.message_types.specs.declared.telling.DoneIs.TheVariants.{Again, Granted as IsGranted, Known}
use Rattle.message_types.specs.declared.telling.DoneIs.TheVariants.{Reply as HasReply}
use Rattle.script_lines.specs.declared.script.Script.{Script}
use Rattle.run_contents.proofs.Grants.{same_decisions}
use Rattle.run_history.proofs.Waiting.{AllFresh}
use Rattle.run_rules.specs.Doings.{after_shipping}
use Rattle.run_rules.specs.Doings.{Doing, SentTo, WasWritten, admitting, after_admitting, after_cause, after_deciding}
use Rattle.run_rules.specs.Doings.{after_sending, after_step, deciding, epoch, sending}
use Rattle.run_rules.specs.Doings.Doing.{Gets, Puts}
use Rattle.run_rules.specs.Doings.Doing.{Admits, BeginsEpoch, Flushes, MakesWant, Reserves, Sent, Took, WritesDown}
use Rattle.run_rules.specs.Kept.{filesets_after, filesets_kept, filesets_through}
use Rattle.run_rules.specs.Past.{EachInTurn, Once, appended}
use Rattle.run_rules.specs.ServerDecides.{IsWrittenSo, MayDecide, MayDecideAll, by_cause, decisions}
use Rattle.run_rules.specs.ServerMay.{AnsweredSo, DoneFor, HasWritten, MaySend, ServerMay}
use Rattle.run_rules.specs.ServerMay.AnsweredSo.{IsEntered, NamesOther, TakesToken}
use Rattle.run_rules.specs.ServerMay.DoneFor.{Answered, OfWritten, Repeated, TakenBack}
use Rattle.run_rules.specs.ServerTokens.{ServerTokens}
use Rattle.run_rules.specs.Wants.{Decides, IsOld, IsQueued}
use Rattle.run_rules.specs.declared.applied.Applied.TheVariants.{Done as IsDone, IsDown, Replied, Stored}
use Rattle.run_rules.specs.declared.applied.Applied.TheVariants.{Moves as IsMoved, Wants as IsWanted}
use Rattle.run_rules.specs.declared.applied.Request.TheVariants.{Change as Changes}
use Rattle.run_rules.specs.declared.applied.Admission.{Admission}
use Rattle.run_rules.specs.declared.applied.Applied.{Applied}
use Rattle.run_rules.specs.declared.applied.Request.{Request}
use Rattle.run_rules.specs.declared.applied.Wanted.{Wanted}
use Rattle.run_rules.specs.declared.applied.Written.{Written}
use Rattle.run_rules.specs.declared.step.Cause.{Cause}
use Rattle.run_rules.specs.declared.step.Cause.TheVariants.{End, Evict, Flushed, Freight, Lapse, Line, Message as Came}
use Rattle.run_rules.specs.declared.step.Cause.TheVariants.{Restart}
use Rattle.run_tokens.proofs.TokenRun.{works_none}
use Rattle.run_tokens.proofs.Ships.{ships_keep}
use Rattle.run_rules.specs.declared.step.Step.{Step}

-- what waits wasn't written down
abbrev pub NoneWritten : List Doing → Type 0
NoneWritten S =
    (w : Wanted) (c : ChangeOf) → IsQueued S w → w.request ≡ Changes c → WasWritten S w.host c.fileset c.number → ⊥

-- it was written down in this epoch
abbrev pub WrittenIn : List Doing → Written → ℕ → Type 0
WrittenIn S w e = Once (λ before a. (a ≡ WritesDown w) × (epoch before ≡ e)) S

-- the Done is a reply
abbrev pub IsReply : DoneOf → Type 0
IsReply d = (r : Reply) × (d.outcome ≡ HasReply r)

-- What a server has said: a Done of what was written down has the reply, or was said in an older epoch; and each reply
-- was written down.
pub record Told (S : List Doing) : Type 0 where
  pub fresh : AllFresh S
  pub apart : NoneWritten S
  pub epochs : (h : HostId) (e n : ℕ) (b : Body) → SentTo S h e n b → e ≤ epoch S
  pub replied : (w : Written) (e0 : ℕ) → WrittenIn S w e0 → (e n : ℕ) (d : DoneOf)
      → SentTo S w.answer.host e n (Done d) → d.fileset ≡ w.fileset → d.bring.number ≡ w.number
      → IsReply d ⊎ (e < e0)
  pub reasons : (h : HostId) (e n : ℕ) (d : DoneOf) (r : Reply) → SentTo S h e n (Done d) → d.outcome ≡ HasReply r
      → HasWritten S h d

pub below_or : (e n : ℕ) → e ≤ n → (e < n) ⊎ (e ≡ n)
below_or zero zero le = inr refl
below_or zero (suc n) le = inl (omega arith)
below_or (suc e) zero le = absurd (omega (arith, le))
below_or (suc e) (suc n) le = elim (below_or e n (omega (arith, le))) [
  | inl lt ↦ inl (omega (arith, lt))
  | inr q ↦ inr (ap suc q)
]

-- what is no want, isn't sent and isn't written changes nothing of that
on : (S : List Doing) (a : Doing) → ((w : Wanted) → a ≡ MakesWant w → ⊥)
    → ((h : HostId) (e n : ℕ) (b : Body) → a ≡ Sent h e n b → ⊥) → ((w : Written) → a ≡ WritesDown w → ⊥)
    → epoch (a ∷ S) ≡ epoch S → Told S → Told (a ∷ S)
on S a no_want no_sent no_write same old = record {
  fresh = λ w c k r n d sent f m. elim k [
    | inl e ↦ no_want w e
    | inr k ↦ elim sent [
      | inl e ↦ no_sent w.host (epoch (a ∷ S)) n (Done d) e
      | inr q ↦ old.fresh w c k.0 r n d (subst (λ (x : ℕ). SentTo S w.host x n (Done d)) same q) f m
    ]
  ];
  apart = λ w c k r was. elim k [
    | inl e ↦ no_want w e
    | inr k ↦ elim was [
      | inl q ↦ no_write q.0 q.1
      | inr o ↦ old.apart w c k.0 r o
    ]
  ];
  epochs = λ h e n b sent. elim sent [
    | inl q ↦ absurd (no_sent h e n b q)
    | inr q ↦ (let le = old.epochs h e n b q in omega (arith, le, same))
  ];
  replied = λ w e0 was e n d sent f m. elim was [
    | inl q ↦ absurd (no_write w q.0)
    | inr o ↦ elim sent [
      | inl q ↦ absurd (no_sent w.answer.host e n (Done d) q)
      | inr q ↦ old.replied w e0 o e n d q f m
    ]
  ];
  reasons = λ h e n d r sent is. elim sent [
    | inl q ↦ absurd (no_sent h e n (Done d) q)
    | inr q ↦ inr (old.reasons h e n d r q is)
  ];
}

begins : (S : List Doing) (x : ℕ) → epoch S ≤ x → Told S → Told (BeginsEpoch x ∷ S)
begins S x up old = record {
  fresh = λ w c k r n d sent f m. elim k [
    | inl e ↦ (let q : BeginsEpoch x ≡ MakesWant w = e in cc)
    | inr k ↦ k.1 (inr (inr (inr (x, refl))))
  ];
  apart = λ w c k r was. elim k [
    | inl e ↦ (let q : BeginsEpoch x ≡ MakesWant w = e in cc)
    | inr k ↦ k.1 (inr (inr (inr (x, refl))))
  ];
  epochs = λ h e n b sent. elim sent [
    | inl q ↦ absurd (let z : BeginsEpoch x ≡ Sent h e n b = q in cc)
    | inr q ↦ (let le = old.epochs h e n b q in omega (arith, le, up))
  ];
  replied = λ w e0 was e n d sent f m. elim was [
    | inl q ↦ absurd (let z : BeginsEpoch x ≡ WritesDown w = q.0 in cc)
    | inr o ↦ elim sent [
      | inl q ↦ absurd (let z : BeginsEpoch x ≡ Sent w.answer.host e n (Done d) = q in cc)
      | inr q ↦ old.replied w e0 o e n d q f m
    ]
  ];
  reasons = λ h e n d r sent is. elim sent [
    | inl q ↦ absurd (let z : BeginsEpoch x ≡ Sent h e n (Done d) = q in cc)
    | inr q ↦ inr (old.reasons h e n d r q is)
  ];
}

pub causes : (c : Cause) (S : List Doing) → Told S → Told (after_cause c S)
causes (Came m) S old =
    on S (Took m.host m.epoch m.moves m.body) (λ w e. cc) (λ h e n b q. cc) (λ w e. cc) refl old
causes (Restart line) S old = begins S (suc (epoch S)) (omega arith) old
causes Flushed S old = on S Flushes (λ w e. cc) (λ h e n b q. cc) (λ w e. cc) refl old
causes (Line line) S old = old
causes Lapse S old = old
causes Evict S old = old
causes (Freight freight) S old = on S (Gets freight.server freight.moves freight.body) (λ w e. cc) (λ h e n b q. cc) (λ w e. cc) refl old
causes End S old = old

same_want : (v w : Wanted) → MakesWant v ≡ MakesWant w → v ≡ w
same_want v w e = cc

same_write : (v w : Written) → WritesDown v ≡ WritesDown w → v ≡ w
same_write v w e = cc

-- a new want is of a Change that isn't answered
pub wanted : (v : ServerId) (before : List Doing) (s : Step) (x : Wanted) (tree : Tree) (S : List Doing)
    → MayDecide v tree before S s (IsWanted x) → Told S → Told (MakesWant x ∷ S)
wanted v before s x tree S may old = record {
  fresh = fresh;
  apart = apart;
  epochs = λ h e n b sent. elim sent [
    | inl q ↦ absurd (let z : MakesWant x ≡ Sent h e n b = q in cc)
    | inr q ↦ old.epochs h e n b q
  ];
  replied = λ w e0 was e n d sent f m. elim was [
    | inl q ↦ absurd (let z : MakesWant x ≡ WritesDown w = q.0 in cc)
    | inr o ↦ elim sent [
      | inl q ↦ absurd (let z : MakesWant x ≡ Sent w.answer.host e n (Done d) = q in cc)
      | inr q ↦ old.replied w e0 o e n d q f m
    ]
  ];
  reasons = λ h e n d r sent is. elim sent [
    | inl q ↦ absurd (let z : MakesWant x ≡ Sent h e n (Done d) = q in cc)
    | inr q ↦ inr (old.reasons h e n d r q is)
  ];
}
  where
    -- it is old where a Done of it was said, or it was written down
    new_or : (w : Wanted) (c : ChangeOf) → x ≡ w → w.request ≡ Changes c → IsOld S w.host (Changes c)
        → ((y : Wanted) → IsQueued S y → y.host ≡ w.host → y.request ≡ Changes c → ⊥) → ⊥
    new_or w c one r was none = elim may.1 [
      | inl new ↦ new.fresh (subst (λ (y : HostId × Request). IsOld S y.0 y.1)
          (λ i. (sym (ap (λ (z : Wanted). z.host) one) i, sym (ap (λ (z : Wanted). z.request) one ∙ r) i)) was)
      | inr k ↦ none k.0 k.1.waits (ap (λ (z : Wanted). z.host) k.1.same ∙ ap (λ (z : Wanted). z.host) one)
          (ap (λ (z : Wanted). z.request) k.1.same ∙ (ap (λ (z : Wanted). z.request) one ∙ r))
    ]

    fresh : AllFresh (MakesWant x ∷ S)
    fresh w c k r n d (inl q) f m = let z : MakesWant x ≡ Sent w.host (epoch S) n (Done d) = q in cc
    fresh w c (inr k) r n d (inr q) f m = old.fresh w c k.0 r n d q f m
    fresh w c (inl e) r n d (inr q) f m =
        new_or w c (same_want x w e) r (inr (epoch S, n, d, q, f, inr (sym m, refl)))
        (λ y waits host is. old.fresh y c waits is n d
        (subst (λ (h : HostId). SentTo S h (epoch S) n (Done d)) (sym host) q) f m)

    apart : NoneWritten (MakesWant x ∷ S)
    apart w c k r (inl q) = let z : MakesWant x ≡ WritesDown q.0 = q.1 in cc
    apart w c (inr k) r (inr o) = old.apart w c k.0 r o
    apart w c (inl e) r (inr o) =
        new_or w c (same_want x w e) r (inl (c.number, omega arith, o))
        (λ y waits host is. old.apart y c waits is
        (subst (λ (h : HostId). WasWritten S h c.fileset c.number) (sym host) o))

-- what is written down waited
pub written_down : (v : ServerId) (tree : Tree) (x : Written) (S : List Doing) → IsWrittenSo v tree S x → Told S
    → Told (WritesDown x ∷ S)
written_down v tree x S so old = record {
  fresh = λ w c k r n d sent f m. elim k [
    | inl e ↦ (let q : WritesDown x ≡ MakesWant w = e in cc)
    | inr k ↦ elim sent [
      | inl q ↦ (let z : WritesDown x ≡ Sent w.host (epoch S) n (Done d) = q in cc)
      | inr q ↦ old.fresh w c k.0 r n d q f m
    ]
  ];
  apart = λ w c k r was. elim k [
    | inl e ↦ (let q : WritesDown x ≡ MakesWant w = e in cc)
    | inr k ↦ elim was [
      | inl q ↦ k.1 (inl (subst (λ (y : Request). Decides (WritesDown x) w.host y) (sym r) (inl q)))
      | inr o ↦ old.apart w c k.0 r o
    ]
  ];
  epochs = λ h e n b sent. elim sent [
    | inl q ↦ absurd (let z : WritesDown x ≡ Sent h e n b = q in cc)
    | inr q ↦ old.epochs h e n b q
  ];
  replied = replied;
  reasons = λ h e n d r sent is. elim sent [
    | inl q ↦ absurd (let z : WritesDown x ≡ Sent h e n (Done d) = q in cc)
    | inr q ↦ inr (old.reasons h e n d r q is)
  ];
}
  where
    replied : (w : Written) (e0 : ℕ) → WrittenIn (WritesDown x ∷ S) w e0 → (e n : ℕ) (d : DoneOf)
        → SentTo (WritesDown x ∷ S) w.answer.host e n (Done d) → d.fileset ≡ w.fileset → d.bring.number ≡ w.number
        → IsReply d ⊎ (e < e0)
    replied w e0 was e n d (inl q) f m = absurd (let z : WritesDown x ≡ Sent w.answer.host e n (Done d) = q in cc)
    replied w e0 (inr o) e n d (inr q) f m = old.replied w e0 o e n d q f m
    replied w e0 (inl (is, now)) e n d (inr q) f m =
        elim (below_or e (epoch S) (old.epochs w.answer.host e n (Done d) q)) [
          | inl lt ↦ inr (omega (arith, lt, now))
          | inr same ↦ (
              let one = same_write x w is in
              let host : w.answer.host ≡ so.w.host = sym (ap (λ (z : Written). z.answer.host) one) ∙ so.host in
              let fileset : w.fileset ≡ so.change.fileset = sym (ap (λ (z : Written). z.fileset) one) ∙ so.fileset in
              let number : w.number ≡ so.change.number = sym (ap (λ (z : Written). z.number) one) ∙ so.number in
              absurd (old.fresh so.w so.change so.waits so.request n d
              (subst (λ (y : HostId × ℕ). SentTo S y.0 y.1 n (Done d)) (λ i. (host i, same i)) q)
              (f ∙ fileset) (m ∙ number))
              )
        ]

decides : (v : ServerId) (before : List Doing) (s : Step) (xs : List Applied) (tree : Tree) (S : List Doing)
    → MayDecideAll v tree before S s xs → Told S → Told (appended (deciding xs) S)
decides v before s [] tree S may old = old
decides v before s (IsWanted x ∷ xs) tree S may old =
    decides v before s xs (filesets_after s.cause tree (IsWanted x)) (MakesWant x ∷ S) may.1
    (wanted v before s x tree S may.0 old)
decides v before s (IsDone x ∷ xs) tree S may old =
    decides v before s xs (filesets_after s.cause tree (IsDone x)) (WritesDown x ∷ S) may.1
    (written_down v tree x S may.0 old)
decides v before s (Replied x ∷ xs) tree S may old = elim may.0 [ ]
decides v before s (Stored h f ss n ∷ xs) tree S may old = elim may.0 [ ]
decides v before s (IsDown h ∷ xs) tree S may old = elim may.0 [ ]
decides v before s (IsMoved move ∷ xs) tree S may old = elim may.0 [ ]

admits : (cs : List Admission) (S : List Doing) → Told S → Told (appended (admitting cs) S)
admits [] S old = old
admits (c ∷ cs) S old =
    admits cs (Admits c.host c.tokens ∷ S)
    (on S (Admits c.host c.tokens) (λ w e. cc) (λ h e n b q. cc) (λ w e. cc) refl old)

-- a Done that isn't a reply settles what waits, or is a repeat
no_reply : (v : ServerId) (tree : Tree) (S : List Doing) (w : Wanted) (c : ChangeOf) (d : DoneOf) (r : Reply)
    → AnsweredSo v tree S w c d → d.outcome ≡ HasReply r → ⊥
no_reply v tree S w c d r (TakesToken uses accepted row can outcome needs) is =
    let q : IsGranted ≡ HasReply r = sym outcome ∙ is in cc
no_reply v tree S w c d r (NamesOther uses accepted other ready outcome none) is =
    let q : Again ≡ HasReply r = sym outcome ∙ is in cc
no_reply v tree S w c d r (IsEntered fileset place enter of named outcome none) is =
    let q : Known fileset.id ≡ HasReply r = sym outcome ∙ is in cc

-- what was written down in some epoch was written down
pub written_once : (S : List Doing) (w : Written) (e0 : ℕ) → WrittenIn S w e0
    → WasWritten S w.answer.host w.fileset w.number
written_once [] w e0 o = elim o [ ]
written_once (a ∷ S) w e0 (inl q) = inl (w, q.0, refl, refl, refl)
written_once (a ∷ S) w e0 (inr o) = inr (written_once S w e0 o)

has_reply : (S : List Doing) (h : HostId) (d : DoneOf) → HasWritten S h d → IsReply d
has_reply [] h d o = elim o [ ]
has_reply (a ∷ S) h d (inl q) = (q.0.answer.reply, q.5)
has_reply (a ∷ S) h d (inr o) = has_reply S h d o

module _ (v : ServerId) (tree : Tree) (s : Step) (S : List Doing) (h : HostId) (e n : ℕ) (b : Body)
    (may : MaySend v tree s S (Sent h e n b)) (tokens : ServerTokens v S (Sent h e n b)) (old : Told S) where
  one_sent : Told (Sent h e n b ∷ S)
  one_sent = record {
    fresh = λ w c k r m d sent f q. elim k [
      | inl x ↦ (let z : Sent h e n b ≡ MakesWant w = x in cc)
      | inr k ↦ elim sent [
        | inr x ↦ old.fresh w c k.0 r m d x f q
        | inl x ↦ k.1 (inl (subst (λ (y : Request). Decides (Sent h e n b) w.host y) (sym r)
            (inr (epoch S, m, d, x, f, q))))
      ]
    ];
    apart = λ w c k r was. elim k [
      | inl x ↦ (let z : Sent h e n b ≡ MakesWant w = x in cc)
      | inr k ↦ elim was [
        | inl q ↦ (let z : Sent h e n b ≡ WritesDown q.0 = q.1 in cc)
        | inr o ↦ old.apart w c k.0 r o
      ]
    ];
    epochs = λ g f m c sent. elim sent [
      | inl q ↦ (
          let now = tokens.epochs g f m c q in omega (arith, now)
          )
      | inr q ↦ old.epochs g f m c q
    ];
    replied = replied;
    reasons = λ g f m d r sent is. elim sent [
      | inl q ↦ inr (reason g f m d r is (may.done_for g f m d q).2)
      | inr q ↦ inr (old.reasons g f m d r q is)
    ];
  }
    where
      reason : (g : HostId) (f m : ℕ) (d : DoneOf) (r : Reply) → d.outcome ≡ HasReply r → DoneFor v tree S g m d
          → HasWritten S g d
      reason g f m d r is (OfWritten w tokens last) = w
      reason g f m d r is (Answered so) = absurd (no_reply v tree S so.w so.change d r so.so is)
      reason g f m d r is (Repeated sent last) = old.reasons g (epoch S) m d r sent is
      reason g f m d r is (TakenBack was last again tokens) =
          absurd (let q : Again ≡ HasReply r = sym again ∙ is in cc)

      why : (w : Written) (e0 : ℕ) → WrittenIn S w e0 → (f m : ℕ) (d : DoneOf) → f ≡ epoch S
          → d.fileset ≡ w.fileset → d.bring.number ≡ w.number → DoneFor v tree S w.answer.host m d
          → IsReply d ⊎ (f < e0)
      why w e0 o f m d now fs num (OfWritten has tokens last) = inl (has_reply S w.answer.host d has)
      why w e0 o f m d now fs num (Answered so) =
          absurd (old.apart so.w so.change so.waits so.request
          (subst (λ (y : HostId × _ × ℕ). WasWritten S y.0 y.1 y.2)
          (λ i. (sym so.host i, (sym fs ∙ so.fileset) i, (sym num ∙ so.number) i)) (written_once S w e0 o)))
      why w e0 o f m d now fs num (Repeated sent last) =
          elim (old.replied w e0 o (epoch S) m d sent fs num) [
            | inl r ↦ inl r
            | inr lt ↦ inr (omega (arith, lt, now))
          ]
      why w e0 o f m d now fs num (TakenBack was last again tokens) =
          elim (old.replied w e0 o (epoch S) was.1 was.0 was.2 (was.4 ∙ fs) (was.5 ∙ num)) [
            | inl r ↦ absurd (let q : IsGranted ≡ HasReply r.0 = sym was.3 ∙ r.1 in cc)
            | inr lt ↦ inr (omega (arith, lt, now))
          ]

      replied : (w : Written) (e0 : ℕ) → WrittenIn (Sent h e n b ∷ S) w e0 → (f m : ℕ) (d : DoneOf)
          → SentTo (Sent h e n b ∷ S) w.answer.host f m (Done d) → d.fileset ≡ w.fileset
          → d.bring.number ≡ w.number → IsReply d ⊎ (f < e0)
      replied w e0 (inl q) f m d sent fs num = absurd (let z : Sent h e n b ≡ WritesDown w = q.0 in cc)
      replied w e0 (inr o) f m d (inr q) fs num = old.replied w e0 o f m d q fs num
      replied w e0 (inr o) f m d (inl q) fs num =
          why w e0 o f m d (tokens.epochs w.answer.host f m (Done d) q) fs num
          (may.done_for w.answer.host f m d q).2

sents : (v : ServerId) (tree : Tree) (s : Step) (ms : List Message) (S : List Doing)
    → EachInTurn (MaySend v tree s) (sending ms) S → EachInTurn (ServerTokens v) (sending ms) S → Told S
    → Told (appended (sending ms) S)
sents v tree s [] S may tokens old = old
sents v tree s (m ∷ ms) S may tokens old =
    sents v tree s ms (Sent m.host m.epoch m.moves m.body ∷ S) may.1 tokens.1
    (one_sent v tree s S m.host m.epoch m.moves m.body may.0 tokens.0 old)

pub step_told : (script : Script) (start : Tree) (v : ServerId) (steps : List Step) (S : List Doing) (s : Step)
    → ServerMay script start v steps S s → Told S → Told (after_step s S)
step_told script start v steps S s m old =
    on (after_shipping s S) (Reserves s.reserved) (λ w e. cc) (λ h e n b q. cc) (λ w e. cc) refl
    (ships_keep Told (λ T to n b was. on T (Puts to n b) (λ w e. cc) (λ h e n b q. cc) (λ w e. cc) refl was) s.shipped
    (after_sending s S) (sents v (filesets_through s.cause s.applied (filesets_kept start v steps)) s s.sent (after_admitting s S)
    m.works.sends
    m.tokens.sends (admits s.admitted (after_deciding s S)
    (subst Told (sym (same_decisions s.applied (after_cause s.cause S)
    (works_none v (filesets_kept start v steps) S s m.works.applies)))
    (decides v S s (decisions s.applied) (filesets_through s.cause (by_cause s.applied) (filesets_kept start v steps))
    (after_cause s.cause S) m.works.decides (causes s.cause S old))))))

pub told_first : (first : ℕ) → Told (BeginsEpoch first ∷ [])
told_first first = record {
  fresh = λ w c k r n d sent f m. elim k [
    | inl e ↦ (let q : BeginsEpoch first ≡ MakesWant w = e in cc)
    | inr k ↦ elim k.0 [ ]
  ];
  apart = λ w c k r was. elim k [
    | inl e ↦ (let q : BeginsEpoch first ≡ MakesWant w = e in cc)
    | inr k ↦ elim k.0 [ ]
  ];
  epochs = λ h e n b sent. elim sent [
    | inl q ↦ absurd (let z : BeginsEpoch first ≡ Sent h e n b = q in cc)
    | inr q ↦ elim q [ ]
  ];
  replied = λ w e0 was e n d sent f m. elim was [
    | inl q ↦ absurd (let z : BeginsEpoch first ≡ WritesDown w = q.0 in cc)
    | inr o ↦ elim o [ ]
  ];
  reasons = λ h e n d r sent is. elim sent [
    | inl q ↦ absurd (let z : BeginsEpoch first ≡ Sent h e n (Done d) = q in cc)
    | inr q ↦ elim q [ ]
  ];
}
