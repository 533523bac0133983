-- A step that says one thing more than another: what it owes of tokens and give-backs is the same.
use Rattle.base_types.specs.declared.ids.HostId.{HostId}
use Rattle.base_types.specs.declared.ids.ServerId.{ServerId}
use Rattle.host_tables.specs.Saying.{IsFirst}
use Rattle.host_tables.specs.declared.tables.Tables.{Tables}
use Rattle.message_types.specs.declared.giving.Give.{Give}
use Rattle.message_types.specs.declared.message.Body.{Body}
use Rattle.message_types.specs.declared.message.Message.{Message}
use Rattle.run_rules.specs.Messages.{HasStopped, KeepsToken, Sends, SendsTo, stay_of}
use Rattle.run_rules.specs.Past.{In}
use Rattle.run_rules.specs.Tokens.{IsOutstanding, LeavesHost}
use Rattle.run_rules.specs.declared.applied.Leave.{Leave}
use Rattle.run_rules.specs.declared.step.Step.{Step}
use Rattle.std.proofs.Common.{List, inl, inr, subst, ℕ, ◌∷◌, ◌⊎◌}
use Rattle.token_types.specs.declared.token.Token.{Token}
use Rattle.token_types.specs.declared.token.TokenId.{TokenId}
use Rattle.host_tables.specs.Revoking.{revokes}
use Rattle.message_types.specs.declared.message.Body.TheVariants.{Down, GiveBack, Kept as KeptBody, Returned}
use Rattle.message_types.specs.declared.tokens.Revoke.{Revoke as RevokeOf}
use Rattle.host_tables.specs.LeavingSteps.{EndsBy, LeavesRight, Left}
use Rattle.host_tables.specs.LeavingSteps.EndsBy.{EndsNone, EndsOne}
use Rattle.host_tables.specs.Giving.{GivesBack}
use Rattle.host_tables.specs.Letting.{Keeping}

-- what no answer to a Revoke is
abbrev pub IsBeside : Body → Type 0
IsBeside (Returned w) = ⊥
IsBeside (KeptBody w) = ⊥
IsBeside (GiveBack g) = ⊥
IsBeside Down = ⊥
IsBeside b = Unit {0}

module _ (host : HostId) (server : ServerId) (epoch : ℕ) (r : RevokeOf) (made : List Give) (dropped : List Leave)
    (sent more : List Message) (past : List Step) (keeps : (y : Message) → In y sent → In y more)
    (from : (y : Message) → In y more → In y sent ⊎ IsBeside y.body) where
  abbrev s : Step
  s = revokes host server epoch 0 r made dropped sent

  abbrev t : Step
  t = revokes host server epoch 0 r made dropped more

  said_more : (v : ServerId) (e n : ℕ) (b : Body) → Sends s v e n b → Sends t v e n b
  said_more v e n b p = (p.0, keeps p.0 p.1, p.2, p.3, p.4, p.5)

  said_less : (v : ServerId) (e n : ℕ) (b : Body) → (IsBeside b → ⊥) → Sends t v e n b → Sends s v e n b
  said_less v e n b none p = elim (from p.0 p.1) [
    | inl i ↦ (p.0, i, p.2, p.3, p.4, p.5)
    | inr x ↦ absurd (none (subst IsBeside p.5 x))
  ]

  kept_more : (i : TokenId) → KeepsToken s i → KeepsToken t i
  kept_more i k = (k.0, k.1, k.2, k.3, said_more k.0 k.1 k.2 (KeptBody k.3) k.4, k.5)

  kept_less : (i : TokenId) → KeepsToken t i → KeepsToken s i
  kept_less i k = (k.0, k.1, k.2, k.3, said_less k.0 k.1 k.2 (KeptBody k.3) (λ x. x) k.4, k.5)

  leaves_more : (i : TokenId) → LeavesHost s i → LeavesHost t i
  leaves_more i (inl g) = inl g
  leaves_more i (inr k) = inr (k.0, k.1, k.2, k.3, said_more k.0 k.1 k.2 (Returned k.3) k.4, k.5)

  leaves_less : (i : TokenId) → LeavesHost t i → LeavesHost s i
  leaves_less i (inl g) = inl g
  leaves_less i (inr k) = inr (k.0, k.1, k.2, k.3, said_less k.0 k.1 k.2 (Returned k.3) (λ x. x) k.4, k.5)

  sends_more : (g : Give) → SendsTo s (stay_of (s ∷ past) g.fid.fileset) (GiveBack g)
      → SendsTo t (stay_of (t ∷ past) g.fid.fileset) (GiveBack g)
  sends_more g p = (p.0, said_more _ _ _ (GiveBack g) p.1)

  out_less : (g : Give) → IsOutstanding (t ∷ past) g → IsOutstanding (s ∷ past) g
  out_less g o = record { made = o.made; unknown = o.unknown; first = o.first }

  stopped_more : HasStopped (s ∷ past) → HasStopped (t ∷ past)
  stopped_more (v, e, n, inl p) = (v, e, n, inl (said_more v e n Down p))
  stopped_more (v, e, n, inr p) = (v, e, n, inr p)

  module _ (m : Tables) (l : Left) where
    ends_same : EndsBy m l past s → EndsBy m l past t
    ends_same (EndsNone none same) = EndsNone none same
    ends_same (EndsOne g u i one used gives only free is) = EndsOne g u i one used gives only free is

    pub right_more : LeavesRight m l past s → LeavesRight m l past t
    right_more it = record {
      stays = it.stays;
      held_is = it.held_is;
      content_is = it.content_is;
      beyond = it.beyond;
      dirty = it.dirty;
      length_new = it.length_new;
      length_old = it.length_old;
      keeps_label = it.keeps_label;
      labels_are = it.labels_are;
      label_kept = it.label_kept;
      label_gone = it.label_gone;
      pinned = λ i e. elim (it.pinned i e) [ inl p ↦ inl p | inr k ↦ inr (kept_more i k) ];
      pins = λ u i e. it.pins u i (elim e [ inl p ↦ inl p | inr k ↦ inr (kept_less u.token.id k) ]);
      gives_from = it.gives_from;
      gives_old = it.gives_old;
      gives_new = it.gives_new;
      last_up = it.last_up;
      last_new = it.last_new;
      last_is = it.last_is;
      leaving_old = it.leaving_old;
      leaving_new = it.leaving_new;
      leaving_from = it.leaving_from;
      ends = ends_same it.ends;
      labels = it.labels;
    }

    pub keeping_more : (kept : List Token) → Keeping m past s kept → Keeping m past t kept
    keeping_more kept it = record {
      were = it.were;
      stay = λ u i. ((λ x. (it.stay u i).0 (leaves_less u.id x)), (it.stay u i).1);
      gone = λ u i. elim (it.gone u i) [ inl j ↦ inl j | inr x ↦ inr (leaves_more u.id x.0, x.1) ];
      dropped = it.dropped;
    }

    pub gives_more : (kept : List Token) → GivesBack m past s kept → GivesBack m past t kept
    gives_more kept it = record {
      names = it.names;
      rise = it.rise;
      ids = it.ids;
      one = it.one;
      above = it.above;
      next = it.next;
      apart = it.apart;
      has = it.has;
      saves = it.saves;
      length_is = it.length_is;
      saves_length = it.saves_length;
      ends = it.ends;
      ends_used = it.ends_used;
      sends = λ g o fresh live. sends_more g (it.sends g (out_less g o) fresh (λ k. live (stopped_more k)));
    }

    pub due_more : (old : Tables) → ((g : Give) → IsFirst l.gives g → (IsFirst old.gives g → ⊥)
        → SendsTo s (stay_of (s ∷ past) g.fid.fileset) (GiveBack g))
        → (g : Give) → IsFirst l.gives g → (IsFirst old.gives g → ⊥)
        → SendsTo t (stay_of (t ∷ past) g.fid.fileset) (GiveBack g)
    due_more old due g one fresh = sends_more g (due g one fresh)
