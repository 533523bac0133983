-- Within a server's step: what is pinned is in use, what is in use is granted where no grace period is on, and the
-- labels let each Change pass that its host asked for.
use Rattle.std.proofs.Common.{Bool, List, ap, arith, false, inl, inr, refl, subst, sym, true, ℕ, ◌<◌, ◌∙◌, ◌∷◌, ◌≡◌}
use Rattle.std.proofs.lemmas.Bool.{false≢true}
use Rattle.base_types.specs.Ids.{same_fid}
use Rattle.base_types.specs.declared.ids.HostId.{HostId}
use Rattle.base_types.specs.declared.ids.Node.TheVariants.{Server}
use Rattle.base_types.specs.declared.ids.OpenKind.{OpenKind}
use Rattle.base_types.specs.declared.ids.ServerId.{ServerId}
use Rattle.base_types.specs.declared.span.Span.{Span}
use Rattle.tree_calls.specs.declared.call.Call.{Call}
use Rattle.tree_answers.proofs.Followed.{same_fid_itself}
use Rattle.tree_answers.specs.Uses.{is_held, is_used, lock_hold, open_hold}
use Rattle.tree_answers.specs.declared.tree.LockUse.{LockUse}
use Rattle.tree_answers.specs.declared.tree.OpenUse.{OpenUse}
use Rattle.tree_answers.specs.declared.tree.Tree.{Tree}
use Rattle.message_types.specs.declared.message.Body.TheVariants.{Change, Done, Kept}
use Rattle.script_lines.specs.declared.script.Script.{Script}
use Rattle.need_laws.proofs.Lists.{or_left, or_right}
use Rattle.token_types.specs.declared.token.Kind.{Kind}
use Rattle.token_types.specs.declared.token.Kind.TheVariants.{Bytes, Lock as LockToken, Opening, Status}
use Rattle.token_types.specs.declared.token.Token.{Token}
use Rattle.token_types.specs.declared.token.TokenId.{TokenId}
use Rattle.run_rules.specs.Doings.{Doing, Granted, HasGoneAway, Issued, NoGrace, Pinned, StayStamp, TookNow, doings_of}
use Rattle.run_rules.specs.Doings.{epoch}
use Rattle.run_rules.specs.Messages.{Changing, HasKeptToken, Said, epoch_at}
use Rattle.run_rules.specs.Past.{In}
use Rattle.run_rules.specs.Runs.{StepsMeet}
use Rattle.run_rules.specs.ServerDecides.{IsWrittenSo}
use Rattle.run_rules.specs.Steps.{steps_of_host}
use Rattle.run_rules.specs.Tokens.{IsUseKind}
use Rattle.run_rules.specs.Wants.{body_of}
use Rattle.run_history.proofs.Deciding.{pinned_use}
use Rattle.run_parts.proofs.LabelLaw.{Labels, locked_owed}
use Rattle.run_parts.proofs.LabelWords.{pinned_granted, pinned_kept, said_kept}
use Rattle.run_contents.proofs.Grants.{AllTaken}
use Rattle.run_contents.proofs.Words.{in_any}
use Rattle.run_tokens.proofs.Invariant.{Link}
use Rattle.run_tokens.proofs.Owed.{Owed}
use Rattle.run_rules.specs.declared.applied.Request.{Request}
use Rattle.run_rules.specs.declared.applied.Written.{Written}
use Rattle.run_rules.specs.declared.step.Labelled.{Labelled}
use Rattle.run_rules.specs.declared.step.Step.{Step}
use Rattle.run_history.proofs.Free.{TreePasses, passes}
use Rattle.run_history.proofs.Mid.{Mid}
use Rattle.run_history.proofs.State.{LockedNow, StandsWith, all, locked_live, rules, tokens, whole}
use Rattle.run_history.proofs.Waiting.{still_changing}

module _ (script : Script) (start : Tree) (firsts : ServerId → ℕ) (real : (v : ServerId) → 0 < firsts v)
    (past : List Step) (s : Step) (run : StepsMeet script start firsts (s ∷ past)) (v : ServerId)
    (node : s.node ≡ Server v) (D : List Doing) (mid : Mid script start firsts real past s run v node D) where
  abbrev S : List Doing
  S = doings_of (firsts v) v past

  abbrev Now : HostId → Labelled → Type 0
  Now = LockedNow firsts past s (Server v)

  labels : (h : HostId) → Labels (steps_of_host h past)
  labels = (all script start firsts real past run.0).labels

  -- the token of a label in use was issued here
  issued_now : (h : HostId) (u : Labelled) → u.token.id.server ≡ v → Now h u → (x : StayStamp) × Issued D u.token x
  issued_now h u at l =
      let o = (locked_owed firsts past (tokens script start firsts real past run.0)
      (rules script start firsts real past run.0) h u l.0
      (locked_live script start firsts real past run.0 h u l.0)).0 in
      let mine : Owed v S u.token = subst (λ (w : ServerId). Owed w (doings_of (firsts w) w past) u.token) at o in
      let i = ((whole script start firsts real past run.0).at v).served.owed_issued u.token mine in
      (i.0, mid.issued u.token i.0 i.1)

  -- what is pinned isn't without a label in use
  pub pin_use : (t : Token) → Pinned v D t → ((u : Labelled) → u.token ≡ t → Now t.host u → ⊥) → ⊥
  pin_use t p never =
      (labels t.host).kept_use t.id kept
      (λ u. none u.0 u.2 ((mid.uses t.host).use_locked u.0 (ap (λ (j : TokenId). j.server) u.2 ∙ here) u.1 live))
      (λ g. (mid.uses t.host).kept_locked g.0 t.id here g.1 g.2 kept
      (λ a. link.taken g.0 t g.1 g.2 refl a granted) live (λ u same gives l. none u same l))
    where
      link : Link t.host v (steps_of_host t.host past) D
      link = mid.at.link t.host

      granted : Granted v D t
      granted = pinned_granted v D t p

      owed : Owed v D t
      owed = link.granted_owed t refl granted

      live : HasGoneAway D t.host → ⊥
      live = (mid.at.served.owed_live t owed).1

      mark : (x : StayStamp) × Issued D t x
      mark = mid.at.served.owed_issued t owed

      here : t.id.server ≡ v
      here = mid.at.served.id t mark.0 mark.1

      kept : HasKeptToken (steps_of_host t.host past) t.id
      kept =
          let k = pinned_kept v D t p in
          let d = link.took_ever k.named.fid.fileset (Kept k.named) k.took in
          (labels t.host).kept_since t.id (said_kept (steps_of_host t.host past) v d.0 d.1 k.named t.id d.2 k.names)

      none : (u : Labelled) → u.token.id ≡ t.id → Now t.host u → ⊥
      none u same l =
          let i = issued_now t.host u (ap (λ (j : TokenId). j.server) same ∙ here) l in
          never u (mid.at.served.unique u.token t i.0 mark.0 i.1 mark.1 same).0 l

  -- what is in use is granted, where no grace period is on
  pub now_granted : NoGrace D → (h : HostId) (u : Labelled) → u.token.id.server ≡ v → Now h u
      → Granted v D u.token × (u.token.host ≡ h)
  now_granted over h u at l =
      let o = owed in
      (mid.at.served.owed_granted u.token o.0 (over u.token.host (mid.at.served.owed_live u.token o.0)), o.1)
    where
      live : HasGoneAway D h → ⊥
      live = (mid.uses h).none_away u at l

      owed : Owed v D u.token × (u.token.host ≡ h)
      owed =
          elim ((mid.uses h).locked_is u at l live) [
            | inl usage ↦ (
                let good = (mid.at.link h).held u.token at ((labels h).use_owned u usage) in
                (good.owed live, good.host)
                )
            | inr g ↦ (
                let y = (mid.at.link h).given g.0 u.token.id at g.1.made g.1.gives.3 g.1.not_applied live in
                let i = mid.at.served.owed_issued y.token y.owed in
                let e = (mid.at.link h).ever u.token at g.2 in
                let one = (mid.at.served.unique y.token u.token i.0 e.0 i.1 e.1 y.same).0 in
                (subst (Owed v D) one y.owed, e.2)
                )
          ]

  module _ (T : Tree) (stands : StandsWith Now T) where
    -- the lock, the open file of a label
    pub lock_of : (h : HostId) (u : Labelled) (w : Bool) (span : Span) → u.token.kind ≡ LockToken w span → Now h u
        → In (let lock : LockUse =
        record { host = h; label = u.label; fid = u.token.fid; writing = w; span = span } in lock) T.locks
    lock_of h u w span kind l =
        (stands.locks (record { host = h; label = u.label; fid = u.token.fid; writing = w; span = span })).1
        (u, l, (refl, refl, refl, kind))

    pub open_of : (h : HostId) (u : Labelled) (kind : OpenKind) → u.token.kind ≡ Opening kind → Now h u
        → In (let opened : OpenUse =
        record { host = h; label = u.label; fid = u.token.fid; kind = kind } in opened) T.opens
    open_of h u kind is l =
        (stands.opens (record { host = h; label = u.label; fid = u.token.fid; kind = kind })).1
        (u, l, (refl, refl, refl, is))

    used_by : (t : Token) → IsUseKind t.kind → (u : Labelled) → u.token ≡ t → Now t.host u
        → is_used T.locks T.opens t.fid ≡ true
    used_by t use_kind u one l = go t.kind refl use_kind
      where
        same : same_fid u.token.fid t.fid ≡ true
        same = ap (λ (x : Token). same_fid u.token.fid x.fid) (sym one) ∙ same_fid_itself u.token.fid

        go : (k : Kind) → t.kind ≡ k → IsUseKind k → is_used T.locks T.opens t.fid ≡ true
        go (LockToken w span) e use_it =
            or_left (is_held lock_hold T.locks t.fid) (is_held open_hold T.opens t.fid)
            (in_any (λ (x : LockUse). same_fid x.fid t.fid) T.locks
            (record { host = t.host; label = u.label; fid = u.token.fid; writing = w; span = span })
            (lock_of t.host u w span (ap (λ (x : Token). x.kind) one ∙ e) l) same)
        go (Opening kind) e use_it =
            or_right (is_held lock_hold T.locks t.fid) (is_held open_hold T.opens t.fid)
            (in_any (λ (x : OpenUse). same_fid x.fid t.fid) T.opens
            (record { host = t.host; label = u.label; fid = u.token.fid; kind = kind })
            (open_of t.host u kind (ap (λ (x : Token). x.kind) one ∙ e) l) same)
        go (Bytes update span) e use_it = elim use_it [ ]
        go (Status update) e use_it = elim use_it [ ]

    pub pinned_used : (t : Token) → Pinned v D t → is_used T.locks T.opens t.fid ≡ true
    pinned_used t p = go (is_used T.locks T.opens t.fid) refl
      where
        go : (b : Bool) → is_used T.locks T.opens t.fid ≡ b → is_used T.locks T.opens t.fid ≡ true
        go true e = e
        go false e =
            absurd (pin_use t p (λ u one l. false≢true (sym e ∙ used_by t (pinned_use v D t p) u one l)))

    -- the labels let the Change pass
    module _ (K : Tree) (x : Written) (so : IsWrittenSo v K D x) (taken : AllTaken D) where
      abbrev h : HostId
      h = so.w.host

      abbrev A : List Step
      A = steps_of_host h past

      took : TookNow D h so.w.moves (Change so.change)
      took = subst (λ (r : Request). TookNow D h so.w.moves (body_of r)) so.request (taken so.w so.waits)

      said : Said A v (epoch D) so.w.moves (Change so.change)
      said = (mid.at.link h).took so.w.moves (Change so.change) took

      now : epoch_at A v ≡ epoch D
      now =
          let le = ((whole script start firsts real past run.0).alone h).said_epoch v (epoch D) so.w.moves
          (Change so.change) said in
          let ge = (mid.at.link h).behind in
          omega (arith, le, ge)

      changing : Changing A v so.change.fileset so.change.number
      changing =
          still_changing script start firsts real h v (epoch D) so.w.moves so.change past run.0 said now
          (λ k d sent f m. mid.fresh so.w so.change so.waits so.request k d (mid.sent h (epoch D) k (Done d) sent) f m)

      pub passes_now : TreePasses T x.answer.host so.change x.answer.call
      passes_now =
          subst (λ (y : HostId × Call). TreePasses T y.0 so.change y.1) (λ i. (sym so.host i, sym so.call i))
          (passes script start firsts real past run.0 h so.change v
          (v, epoch D, so.w.moves, said, λ z. refl) changing Now
          (λ u y. y.0) T stands)
