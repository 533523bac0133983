-- What a step ends with where each want has to wait and no claim is ripe: nothing comes of them, whatever the store
-- keeps.
use Rattle.std.proofs.Common.{◌≡◌, ◌<◌, ◌≤◌, ◌+◌, ℕ, zero, suc, Bool, true, false, ◌&&◌, List, [], ◌∷◌, None, length}
use Rattle.std.proofs.Common.{inl, inr, refl, sym, ◌∙◌, ap, subst, arith}
use Rattle.std.specs.List.{list_all}
use Rattle.run_rules.specs.Past.{In}
use Rattle.run_rules.specs.declared.applied.Request.{Request}
use Rattle.run_rules.specs.declared.applied.Request.TheVariants.{Change as Changes, Fetch as Asks}
use Rattle.store_state.specs.declared.state.StoreState.{StoreState}
use Rattle.token_manager.specs.Laws.{KeepsLaws}
use Rattle.token_manager.specs.Managers.{wanted}
use Rattle.server_says.specs.Claiming.{AdmitsOne}
use Rattle.server_says.specs.Revoking.{asking_back, not_asked}
use Rattle.server_says.specs.Running.{GoesTo}
use Rattle.server_says.proofs.Chains.{goes_more, goes_none}
use Rattle.server_tables.specs.Judging.{first_ripe}
use Rattle.server_tables.specs.declared.pending.Pending.{Pending}
use Rattle.server_tables.specs.declared.tables.Tables.{Tables}
use Rattle.server_says.specs.Taking.{made}
use Rattle.server_says.specs.Draft.{Draft}
use Rattle.server_decides.specs.Deciding.{Decides, IsDueOf, IsPlaced, NoneDue, is_passed, is_waiting, outlook_at}
use Rattle.server_decides.specs.Finishing.{IsFinished}
use Rattle.server_decides.specs.Running.{making}
use Rattle.server_decides.specs.Sending.{HasSentAll, IsSending, Sends, looking}
use Rattle.server_decides.specs.Serving.{IsServed}
use Rattle.server_decides.proofs.Parts.{whether_yes}
use Rattle.server_decides.proofs.Steps.{sends_passed}

abbrev Waits : Tables → Pending → Type 0
Waits x p = is_waiting (outlook_at x p.number) ≡ true

abbrev pub AllWait : Tables → List Pending → Type 0
AllWait x ps = list_all (λ (p : Pending). is_waiting (outlook_at x p.number)) ps ≡ true

both_true : (a b : Bool) → (a && b) ≡ true → (a ≡ true) × (b ≡ true)
both_true true true e = (refl, refl)
both_true true false e = absurd (cc)
both_true false b e = absurd (cc)

pub waits_in : (x : Tables) (ps : List Pending) → AllWait x ps → (p : Pending) → In p ps → Waits x p
waits_in x [] h p i = elim i [ ]
waits_in x (q ∷ qs) h p (inl e) = subst (λ (o : Pending). Waits x o) (sym e) (both_true _ _ h).0
waits_in x (q ∷ qs) h p (inr i) = waits_in x qs (both_true _ _ h).1 p i

-- nothing is due of one that has to wait, and didn't just come
due_none : (x : Tables) (state : StoreState) (p : Pending) (r : Request) → Waits x p → IsDueOf x state p false None r
due_none x state p (Asks fetch) w = refl
due_none x state p (Changes change) w =
    whether_yes (is_passed x p false) _ _ (ap (λ (b : Bool). b && true) w) refl

pub none_due : (x : Tables) (state : StoreState) (ps : List Pending) → AllWait x ps → NoneDue x state None ps
none_due x state ps h p i = due_none x state p p.wanted.request (waits_in x ps h p i)

-- it isn't answered
sending_none : (x : Tables) (state : StoreState) (p : Pending) → Waits x p → IsSending x state p None
sending_none x state p w = whether_yes (is_waiting (outlook_at x p.number)) _ _ w refl

placed_in : (ps : List Pending) (at : ℕ) (p : Pending) → IsPlaced ps at p → In p ps
placed_in [] at p h = let l = h.0 in absurd (omega (arith, l))
placed_in (q ∷ qs) zero p h = inl (sym h.1)
placed_in (q ∷ qs) (suc at) p h = inr (placed_in qs at p (let l = h.0 in omega (arith, l), h.1))

module _ (x : Tables) (d : Draft) (state : StoreState) (all : AllWait x x.pending) where
  passed : (n : ℕ) → n ≤ length x.pending → GoesTo (Sends state) (looking x d 0) (looking x d n)
  passed zero l = goes_none (Sends state) (looking x d 0)
  passed (suc n) l = subst (λ k. GoesTo (Sends state) (looking x d 0) (looking x d k)) (omega arith)
      (sends_passed state (looking x d 0) x d n (omega (arith, l)) state refl (passed n (omega (arith, l)))
      (λ p place. sending_none x state p (waits_in x x.pending all p (placed_in x.pending n p place))))

  sent_none : HasSentAll state x d x d
  sent_none = record {
    end = looking x d (length x.pending);
    goes = passed (length x.pending) (omega arith);
    tables = refl;
    draft = refl;
    all = omega arith;
  }

  pub idle_finished : (y : Tables) (e : Draft) (rested : Bool) → d.fresh ≡ None
      → first_ripe x.recovering x.server ≡ None → IsServed x state → KeepsLaws x.tokens
      → y ≡ (asking_back x d (not_asked (wanted x.tokens))).tables
      → e ≡ (asking_back x d (not_asked (wanted x.tokens))).draft
      → (rested ≡ true → AllWait y y.pending) → IsFinished x d state y e state rested
  idle_finished y e rested old ripe served laws f g rests = record {
    decided = making x d state;
    decides = goes_none Decides (making x d state);
    none_due = subst (λ o. NoneDue x state o x.pending) (sym old) (none_due x state x.pending all);
    admitted = made x d;
    admits = goes_none AdmitsOne (made x d);
    none_ripe = ripe;
    served = served;
    sent = made x d;
    sends = sent_none;
    laws = laws;
    asks = record { tables = f; draft = g };
    stored = refl;
    rests = λ r. none_due y state y.pending (rests r);
  }
