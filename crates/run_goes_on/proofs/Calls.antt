-- An open call awaits the answer to a message.
use Rattle.std.proofs.Common.{Bool, List, [], arith, false, inl, inr, refl, subst, suc, sym, true, zero, ℕ}
use Rattle.std.proofs.Common.{◌<◌, ◌==◌, ◌∙◌, ◌∷◌, ◌≡◌, ◌≤◌}
use Rattle.std.proofs.lemmas.Bool.{eqb-true, eq-eqb, false≢true}
use Rattle.base_types.specs.declared.ids.FilesetId.{FilesetId}
use Rattle.base_types.specs.declared.ids.HostId.{HostId}
use Rattle.base_types.specs.declared.ids.ServerId.{ServerId}
use Rattle.script_lines.specs.declared.script.Script.{Script}
use Rattle.message_types.specs.declared.asking.Change.{Change as ChangeOf}
use Rattle.message_types.specs.declared.asking.Fetch.{Fetch as FetchOf}
use Rattle.message_types.specs.declared.giving.Give.{Give}
use Rattle.message_types.specs.declared.message.Body.TheVariants.{Change, Fetch, GiveBack, Hello}
use Rattle.run_examples.proofs.Words.{moved, waits, waits_is, waits_yes}
use Rattle.run_rules.specs.HostAsks.{HasChanged, HasFetched}
use Rattle.run_rules.specs.HostMay.{HostMay}
use Rattle.run_rules.specs.Messages.{Asking, Changing, HasStopped, home}
use Rattle.run_rules.specs.Past.{Always}
use Rattle.run_rules.specs.Runs.{firsts_of}
use Rattle.run_rules.specs.Steps.{steps_of_host}
use Rattle.run_rules.specs.Tokens.{IsKnown, IsOpen, IsOutstanding, Made}
use Rattle.run_rules.specs.declared.step.Asked.{Asked}
use Rattle.run_rules.specs.declared.step.Step.{Step}
use Rattle.run_goes_on.proofs.Positions.{own_run, steps_back}
use Rattle.run_goes_on.specs.Waiting.{AwaitsAnswer, OpenCallsAwaitAnswers}

-- a request that is outstanding was sent
fetched : (A : List Step) (fs : FilesetId) (n : ℕ) → Asking A fs n
    → (f : FetchOf) × HasFetched A f × (f.fid.fileset ≡ fs) × (f.number ≡ n)
fetched [] fs n x = elim x [ ]
fetched (s ∷ A) fs n x = elim x.0 [
  | inl k ↦ (k.0, (let f = k.1 in (f.0, f.1, f.2, inl f.3)), k.2, k.3)
  | inr old ↦ (
      let k = fetched A fs n old in
      (k.0, (let f = k.1 in (f.0, f.1, f.2, inr f.3)), k.2, k.3)
      )
]

changed : (A : List Step) (v : ServerId) (fs : FilesetId) (n : ℕ) → Changing A v fs n
    → (c : ChangeOf) × HasChanged A v c × (c.fileset ≡ fs) × (c.number ≡ n)
changed [] v fs n x = elim x [ ]
changed (s ∷ A) v fs n x = elim x.0 [
  | inl k ↦ (k.0, (let f = k.1 in (f.0, f.1, f.2, inl f.3, f.4)), k.2, k.3)
  | inr old ↦ (
      let k = changed A v fs n old in
      (k.0, (let f = k.1 in (f.0, f.1, f.2, inr f.3, f.4)), k.2, k.3)
      )
]

-- of the give-backs of a fileset that aren't known as applied the first is outstanding
module _ (A : List Step) where
  choose : (g : Give) → Made A g → (IsKnown A g → ⊥)
      → ((f : Give) → f.number < g.number → Made A f → (IsKnown A f → ⊥) → (k : Give) × IsOutstanding A k)
      → (k : Give) × IsOutstanding A k
  choose g made unknown less = go (waits A g) refl
    where
      go : (b : Bool) → waits A g ≡ b → (k : Give) × IsOutstanding A k
      go true e = let w = waits_yes A g e in less w.0 w.3 w.1 w.4
      go false e = (
        g,
        record { made = made; unknown = unknown; first = λ w. false≢true (sym e ∙ waits_is A g w) },
      )

  first_open : (n : ℕ) (g : Give) → g.number ≤ n → Made A g → (IsKnown A g → ⊥) → (k : Give) × IsOutstanding A k
  first_open zero g le made unknown =
      choose g made unknown (λ f lt m u. absurd (omega (arith, le, lt)))
  first_open (suc n) g le made unknown =
      choose g made unknown
      (λ f lt m u. first_open n f (let q : g.number ≤ suc n = le in omega (arith, q, lt)) m u)

  -- where one isn't known as applied, one is outstanding
  pub outstanding_of : (g : Give) → Made A g → (IsKnown A g → ⊥) → (k : Give) × IsOutstanding A k
  outstanding_of g made unknown = first_open g.number g (omega arith) made unknown

  by_give : (g : Give) → Made A g → (IsKnown A g → ⊥) → AwaitsAnswer A
  by_give g made unknown =
      let k = outstanding_of g made unknown in
      record {
        server = home k.0.fid.fileset;
        moves = 0;
        body = GiveBack k.0;
        for_call = tt;
        unanswered = (k.1, refl);
      }

  by_fetch : (fs : FilesetId) (n : ℕ) → Asking A fs n → AwaitsAnswer A
  by_fetch fs n asking =
      let k = fetched A fs n asking in
      let fileset : k.0.fid.fileset ≡ fs = k.2 in
      let number : k.0.number ≡ n = k.3 in
      record {
        server = home k.0.fid.fileset;
        moves = 0;
        body = Fetch k.0;
        for_call = tt;
        unanswered = (
          k.1,
          subst (λ (y : FilesetId × ℕ). Asking A y.0 y.1) (sym (λ i. (fileset i, number i))) asking,
          refl,
        );
      }

  by_change : (v : ServerId) (fs : FilesetId) (n : ℕ) → Changing A v fs n → AwaitsAnswer A
  by_change v fs n changing = go (k.0.fileset.0 == 0) refl
    where
      k : (c : ChangeOf) × HasChanged A v c × (c.fileset ≡ fs) × (c.number ≡ n)
      k = changed A v fs n changing

      outstanding : Changing A v k.0.fileset k.0.number
      outstanding =
          let fileset : k.0.fileset ≡ fs = k.2 in
          let number : k.0.number ≡ n = k.3 in
          subst (λ (y : FilesetId × ℕ). Changing A v y.0 y.1) (sym (λ i. (fileset i, number i))) changing

      go : (b : Bool) → (k.0.fileset.0 == 0) ≡ b → AwaitsAnswer A
      go true e = record {
        server = v;
        moves = 0;
        body = Change k.0;
        for_call = tt;
        unanswered = (k.1, outstanding, inl (eqb-true k.0.fileset.0 0 e, refl));
      }
      go false e =
          let other : k.0.fileset.0 ≡ 0 → ⊥ = λ z. false≢true (sym e ∙ eq-eqb k.0.fileset.0 0 z) in
          let f = k.1 in
          record {
            server = home k.0.fileset;
            moves = 0;
            body = Change k.0;
            for_call = tt;
            unanswered = (
              (f.0, f.1, f.2, f.3, λ z. absurd (other z)),
              moved A v (home k.0.fileset) k.0.fileset k.0.number (λ z. absurd (other z)) outstanding,
              inr refl,
            );
          }

module _ (script : Script) (host : HostId) where
  open_waits : (A : List Step) → Always (HostMay script host) A → (call : Asked) → IsOpen A call
      → (HasStopped A → ⊥) → AwaitsAnswer A
  open_waits [] run call o live = elim o [ ]
  open_waits (s ∷ A) run call o live = elim (run.1.asks.asks call o live) [
    | inl asking ↦ by_fetch (s ∷ A) asking.0 asking.1 asking.2
    | inr (inl changing) ↦ by_change (s ∷ A) changing.0 changing.1 changing.2 changing.3
    | inr (inr (inl (inl lacks))) ↦ (let g = lacks.2 in by_give (s ∷ A) g.0 g.1 g.3)
    | inr (inr (inl (inr gives))) ↦ (let g = gives.1 in by_give (s ∷ A) g.0 g.1 g.2)
    | inr (inr (inr greeted)) ↦ record {
      server = greeted.0;
      moves = 0;
      body = Hello;
      for_call = tt;
      unanswered = (greeted.2, greeted.3, refl);
    }
  ]

pub open_calls_await_answers : OpenCallsAwaitAnswers
open_calls_await_answers script journal run past later e host call o live =
    open_waits script host (steps_of_host host past)
    (own_run script run.start (firsts_of journal) past
    (steps_back script run.start (firsts_of journal) later past e run.steps) host) call o live
