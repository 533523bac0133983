-- What was told of claims stays so: a Reclaimed names give-backs that were applied, and what was given up.
use Rattle.std.proofs.Common.{◌≡◌, ℕ, List, [], ◌∷◌, inl, inr, subst, refl, ap, sym, ◌⊎◌, ◌∙◌}
use Rattle.base_types.specs.declared.ids.HostId.{HostId}
use Rattle.base_types.specs.declared.ids.ServerId.{ServerId}
use Rattle.message_types.specs.declared.giving.Reclaimed.{Reclaimed as ReclaimedOf}
use Rattle.message_types.specs.declared.message.Body.TheVariants.{Reclaimed, Done}
use Rattle.message_types.specs.declared.message.Message.{Message}
use Rattle.run_rules.specs.Doings.{Doing, IsNewEpoch, SentTo, after_cause, admitting, deciding, epoch, sending, InEpoch}
use Rattle.run_rules.specs.Doings.Doing.{Gets}
use Rattle.run_rules.specs.Doings.Doing.{Admits, Flushes, MakesWant, Sent, Took, WritesDown}
use Rattle.run_rules.specs.Past.{EachInTurn, In, appended}
use Rattle.run_rules.specs.ServerTokens.{ServerTokens}
use Rattle.run_rules.specs.declared.applied.Admission.{Admission}
use Rattle.run_rules.specs.declared.applied.Applied.{Applied}
use Rattle.run_rules.specs.declared.applied.Applied.TheVariants.{Done as IsDone, IsDown, Replied, Stored, Wants}
use Rattle.run_rules.specs.declared.applied.Applied.TheVariants.{Moves as IsMoved}
use Rattle.run_rules.specs.declared.step.Cause.{Cause}
use Rattle.run_rules.specs.declared.step.Cause.TheVariants.{End, Evict, Flushed, Freight, Lapse}
use Rattle.run_rules.specs.declared.step.Cause.TheVariants.{Line, Message as Came, Restart}
use Rattle.server_tables.proofs.Still.{same_epoch}
use Rattle.server_exporter.specs.Machines.{AreTold, IsTold}
use Rattle.message_types.specs.declared.message.Body.{Body}
use Rattle.message_types.specs.declared.asking.Change.{Change as ChangeOf}
use Rattle.run_rules.specs.declared.applied.Request.TheVariants.{Change as Changes}
use Rattle.run_rules.specs.Wants.{Decides, IsOld, IsQueued}
use Rattle.message_types.specs.declared.telling.Done.{Done as DoneOf}
use Rattle.run_rules.specs.ServerDecides.{IsAnew, IsNewRequest, MayDecide, MayDecideAll}
use Rattle.run_rules.specs.declared.applied.Request.{Request}
use Rattle.run_rules.specs.declared.step.Step.{Step}
use Rattle.tree_answers.specs.declared.tree.Tree.{Tree}
use Rattle.run_rules.specs.declared.applied.Wanted.{Wanted}
use Rattle.run_rules.specs.Kept.{filesets_after}

module _ (server : ServerId) where
  told_on : (p : List Doing) (a : Doing) → (IsNewEpoch a → ⊥) → (h : HostId) (r : ReclaimedOf) → IsTold server p h r
      → IsTold server (a ∷ p) h r
  told_on p a calm h r z = record {
    applied = λ g i. inr (z.applied g i);
    left_out = λ t i. inr (z.left_out t i, calm);
  }

  -- a want is made of no Change that was answered
  abbrev pub IsUnsaid : List Doing → Doing → Type 0
  IsUnsaid p a = (w : Wanted) (c : ChangeOf) (n : ℕ) (d : DoneOf) → a ≡ MakesWant w → w.request ≡ Changes c
      → SentTo p w.host (epoch p) n (Done d) → d.fileset ≡ c.fileset → d.bring.number ≡ c.number → ⊥

  -- one doing more
  module _ (p : List Doing) (a : Doing) (calm : IsNewEpoch a → ⊥)
      (its : (h : HostId) (e n : ℕ) (r : ReclaimedOf) → a ≡ Sent h e n (Reclaimed r) → IsTold server p h r)
      (asks : IsUnsaid p a) (z : AreTold server p) where
    abbrev same : epoch (a ∷ p) ≡ epoch p
    same = same_epoch a (epoch p) calm

    claims_next : (h : HostId) (n : ℕ) (r : ReclaimedOf) → SentTo (a ∷ p) h (epoch p) n (Reclaimed r)
        → IsTold server (a ∷ p) h r
    claims_next h n r (inl q) = told_on p a calm h r (its h (epoch p) n r q)
    claims_next h n r (inr q) = told_on p a calm h r (z.claims h n r q)

    since_next : (h : HostId) (n : ℕ) (b : Body) → SentTo (a ∷ p) h (epoch p) n b
        → InEpoch (λ before a. a ≡ Sent h (epoch p) n b) (a ∷ p)
    since_next h n b (inl q) = inl q
    since_next h n b (inr q) = inr (z.since h n b q, calm)

    unsaid_next : (w : Wanted) (c : ChangeOf) (n : ℕ) (d : DoneOf) → IsQueued (a ∷ p) w → w.request ≡ Changes c
        → SentTo (a ∷ p) w.host (epoch p) n (Done d) → d.fileset ≡ c.fileset → d.bring.number ≡ c.number → ⊥
    unsaid_next w c n d (inl made) is (inl sent) fs num = let q = sym made ∙ sent in cc
    unsaid_next w c n d (inl made) is (inr sent) fs num = asks w c n d made is sent fs num
    unsaid_next w c n d (inr q) is (inl sent) fs num =
        q.1 (inl (subst (λ (r : Request). Decides a w.host r) (sym is) (inr (epoch p, n, d, sent, fs, num))))
    unsaid_next w c n d (inr q) is (inr sent) fs num = z.unsaid w c n d q.0 is sent fs num

    pub told_next : AreTold server (a ∷ p)
    told_next = record {
      claims = λ h n r s. claims_next h n r (subst (λ (e : ℕ). SentTo (a ∷ p) h e n (Reclaimed r)) same s);
      since = λ h n b s. subst (λ (e : ℕ). InEpoch (λ before a. a ≡ Sent h e n b) (a ∷ p)) (sym same)
          (since_next h n b (subst (λ (e : ℕ). SentTo (a ∷ p) h e n b) same s));
      unsaid = λ w c n d q is s. unsaid_next w c n d q is
          (subst (λ (e : ℕ). SentTo (a ∷ p) w.host e n (Done d)) same s);
    }

  -- words that are no Reclaimed
  pub told_plain : (ms : List Message) (p : List Doing)
      → ((m : Message) → In m ms → (r : ReclaimedOf) → m.body ≡ Reclaimed r → ⊥) → AreTold server p
      → AreTold server (appended (sending ms) p)
  told_plain [] p none z = z
  told_plain (m ∷ ms) p none z =
      told_plain ms (Sent m.host m.epoch m.moves m.body ∷ p) (λ n i. none n (inr i))
      (told_next p (Sent m.host m.epoch m.moves m.body) (λ b. let q = b.1 in cc)
      (λ h e n r q. absurd (none m (inl refl) r (its_body m h e n r q))) (λ w c n d q. absurd (cc)) z)
    where
      its_body : (m : Message) (h : HostId) (e n : ℕ) (r : ReclaimedOf)
          → Sent m.host m.epoch m.moves m.body ≡ Sent h e n (Reclaimed r) → m.body ≡ Reclaimed r
      its_body m h e n r q = cc

  -- words that the rules allow
  pub told_words : (ms : List Message) (p : List Doing) → EachInTurn (ServerTokens server) (sending ms) p
      → AreTold server p → AreTold server (appended (sending ms) p)
  told_words [] p each z = z
  told_words (m ∷ ms) p each z =
      told_words ms (Sent m.host m.epoch m.moves m.body ∷ p) each.1
      (told_next p (Sent m.host m.epoch m.moves m.body) (λ b. let q = b.1 in cc) (λ h e n r q. record {
        applied = λ g i. each.0.reclaimed h e n r g q i;
        left_out = λ t i. each.0.left_out h e n r t q i;
      }) (λ w c n d q. absurd (cc)) z)

  -- decisions that the rules allow
  module _ (before : List Doing) (s : Step) where
    its_want : (tree : Tree) (p : List Doing) (w : Wanted) → MayDecide server tree before p s (Wants w)
        → AreTold server p → IsUnsaid p (MakesWant w)
    its_want tree p w may z v c n d e is sent fs num =
        let same : w ≡ v = cc in
        by (subst (λ (o : Wanted). MayDecide server tree before p s (Wants o)) same may).1
      where
        by : IsNewRequest server before p s v.host v.moves v.request
            ⊎ ((old : Wanted) × IsAnew server tree p old v) → ⊥
        by (inl new) = new.fresh (subst (IsOld p v.host) (sym is)
            (inr (epoch p, n, d, sent, fs, inr (sym num, refl))))
        by (inr o) = z.unsaid o.0 c n d o.1.waits (ap (λ (u : Wanted). u.request) o.1.same ∙ is)
            (subst (λ (h : HostId). SentTo p h (epoch p) n (Done d)) (sym (ap (λ (u : Wanted). u.host) o.1.same)) sent)
            fs num

    pub told_decided : (more : List Applied) (tree : Tree) (p : List Doing)
        → MayDecideAll server tree before p s more → AreTold server p → AreTold server (appended (deciding more) p)
    told_decided [] tree p may z = z
    told_decided (Wants w ∷ more) tree p may z =
        told_decided more (filesets_after s.cause tree (Wants w)) (MakesWant w ∷ p) may.1
        (told_next p (MakesWant w) (λ b. let q = b.1 in cc) (λ h e n r q. absurd (cc)) (its_want tree p w may.0 z) z)
    told_decided (IsDone v ∷ more) tree p may z =
        told_decided more (filesets_after s.cause tree (IsDone v)) (WritesDown v ∷ p) may.1
        (told_next p (WritesDown v) (λ b. let q = b.1 in cc) (λ h e n r q. absurd (cc)) (λ w c n d q. absurd (cc)) z)
    told_decided (IsDown host ∷ more) tree p may z = absurd may.0
    told_decided (IsMoved move ∷ more) tree p may z = absurd may.0
    told_decided (Replied answer ∷ more) tree p may z = absurd may.0
    told_decided (Stored host fid spans length ∷ more) tree p may z = absurd may.0

  pub told_admitted : (admitted : List Admission) (p : List Doing) → AreTold server p
      → AreTold server (appended (admitting admitted) p)
  told_admitted [] p z = z
  told_admitted (c ∷ more) p z = told_admitted more (Admits c.host c.tokens ∷ p)
      (told_next p (Admits c.host c.tokens) (λ b. let q = b.1 in cc) (λ h e n r q. absurd (cc))
      (λ w c n d q. absurd (cc)) z)

  -- a cause by which no epoch begins
  pub told_caused : (cause : Cause) (p : List Doing) → ((line : ℕ) → cause ≡ Restart line → ⊥) → AreTold server p
      → AreTold server (after_cause cause p)
  told_caused (Came m) p calm z = told_next p (Took m.host m.epoch m.moves m.body) (λ b. let q = b.1 in cc)
      (λ h e n r q. absurd (cc)) (λ w c n d q. absurd (cc)) z
  told_caused Flushed p calm z = told_next p Flushes (λ b. let q = b.1 in cc) (λ h e n r q. absurd (cc))
      (λ w c n d q. absurd (cc)) z
  told_caused (Restart line) p calm z = absurd (calm line refl)
  told_caused (Line line) p calm z = z
  told_caused Lapse p calm z = z
  told_caused Evict p calm z = z
  told_caused (Freight freight) p calm z = told_next p (Gets freight.server freight.moves freight.body) (λ b. let q = b.1 in cc) (λ h e n r q. absurd (cc))
      (λ w c n d q. absurd (cc)) z
  told_caused End p calm z = z
