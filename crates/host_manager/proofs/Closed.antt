-- What becomes of the open call, and of a label that is being ended, where give-backs become known as applied.
use Rattle.std.proofs.Common.{◌∙◌, ◌≡◌}
use Rattle.host_manager.proofs.Forgotten.{HasForgotten}
use Rattle.host_manager.proofs.Outlasts.{beside, why_stays}
use Rattle.host_manager.proofs.Running.{AsksWhy}
use Rattle.host_tables.proofs.Tidy.{tidy_stays}
use Rattle.host_manager.specs.Running.{AsksForCall, EndsOpen, IsRunning}
use Rattle.host_tables.specs.Stands.{Stands}
use Rattle.host_tables.specs.Tidy.{IsTidy}
use Rattle.host_tables.specs.declared.draft.Draft.{Draft}
use Rattle.host_tables.specs.declared.tables.Tables.{Tables}
use Rattle.message_types.specs.declared.giving.AppliedGive.{AppliedGive}
use Rattle.message_types.specs.declared.giving.Give.{Give}
use Rattle.message_types.specs.declared.message.Body.TheVariants.{GiveBack}
use Rattle.run_rules.specs.Past.{In}
use Rattle.run_rules.specs.Tokens.{IsKnown, Made}
use Rattle.run_rules.specs.declared.step.Asked.{Asked}
use Rattle.run_rules.specs.declared.step.Labelled.{Labelled}
use Rattle.run_rules.specs.declared.step.Step.{Step}
use Rattle.script_lines.specs.declared.script.Script.{Script}
use Rattle.std.proofs.Common.{List, None, Option, Some, ap, inl, inr, refl, subst, sym, ◌∙◌, ◌≡◌}
use Rattle.tree_calls.specs.declared.call.Call.{Call}

-- where the tables have all that a call looks at as before
pub asks_beside : (m y : Tables) (call : Call) → y ≡ beside m y → AsksWhy m call → AsksWhy y call
asks_beside m y call same why = subst (λ (z : Tables). AsksWhy z call) (sym same) (why_stays m y call why)

module _ (script : Script) (m : Tables) (past : List Step) (running : IsRunning script m past) (d : Draft)
    (ns : List AppliedGive) (x : Tables) (e : Draft) (it : HasForgotten m d ns x e) where
  stands : Stands script m past
  stands = running.rests.stands

  -- the same call is open, or none is
  pub open_was : (c : Asked) → x.call ≡ Some c → m.call ≡ Some c
  open_was c open_is = by_call m.call refl
    where
      by_call : (o : Option Asked) → m.call ≡ o → m.call ≡ Some c
      by_call None q = absurd (let p = sym (it.closes.none q) ∙ open_is in cc)
      by_call (Some a) q = elim (it.closes.some a q) [
        | inl r ↦ q ∙ (sym r.0 ∙ open_is)
        | inr r ↦ absurd (let p = sym r.0 ∙ open_is in cc)
      ]

  -- a call that one of them ended had nothing asked for it
  pub idle_then : x.call ≡ None → m.request ≡ None
  idle_then none = by_call m.call refl
    where
      by_call : (o : Option Asked) → m.call ≡ o → m.request ≡ None
      by_call None q = running.rests.rest.alone q
      by_call (Some a) q = elim (it.closes.some a q) [
        | inl r ↦ absurd (let p = sym r.0 ∙ none in cc)
        | inr r ↦
            let g : Give = r.1.0 in
            let l = r.1.2 in
            let made = stands.gives.made l.message l.within in
            let b : GiveBack g ≡ GiveBack made.0 = sym l.body ∙ made.1 in
            let same : made.0 ≡ g = cc in
            let is_made = subst (Made past) same made.2 in
            let unknown : IsKnown past g → ⊥ = λ k. made.3 (subst (IsKnown past) (sym same) k) in
            let u = stands.leaving.uses g r.1.1 is_made r.1.3 unknown in
            let ending = stands.leaving.ended u.0 g u.1 unknown in (running.ending u.0 ending).3
      ]

  pub ending_then : (u : Labelled) → x.ending ≡ Some u
      → (m.ending ≡ Some u) × ((c : Asked) → m.call ≡ Some c → x.call ≡ Some c)
  ending_then u q = elim it.forgets.ending_is [
    | inr w ↦ absurd (let p = sym w.0 ∙ q in cc)
    | inl w ↦ (
      sym w.0 ∙ q,
      λ c open_is. elim (it.closes.some c open_is) [
        | inl r ↦ r.0
        | inr r ↦ absurd (w.1 r.1.0 r.1.1 r.1.2 r.1.3)
      ],
    )
  ]

  -- while a request is outstanding nothing was being ended
  pub none_ended : (m.request ≡ None → ⊥) → x.ending ≡ m.ending
  none_ended busy = elim it.forgets.ending_is [
    | inl w ↦ w.0
    | inr w ↦ w.0 ∙ sym (by_ending m.ending refl)
  ]
    where
      by_ending : (o : Option Labelled) → m.ending ≡ o → m.ending ≡ None
      by_ending None q = q
      by_ending (Some u) q = absurd (busy (running.ending u q).3)

  -- by tables that differ in what is known of servers, and floors
  module _ (y : Tables) (is : y ≡ record x { sites = y.sites; floors = y.floors }) where
    tables_are : y ≡ record m {
      lengths = x.lengths;
      gives = x.gives;
      leaving = x.leaving;
      ending = x.ending;
      call = x.call;
      sites = y.sites;
      floors = y.floors;
    }
    tables_are = is ∙ ap (λ (z : Tables). record z { sites = y.sites; floors = y.floors }) it.tables

    call_is : y.call ≡ x.call
    call_is = ap (λ (z : Tables). z.call) is

    pub request_is : y.request ≡ m.request
    request_is = ap (λ (z : Tables). z.request) tables_are

    pub ending_now : EndsOpen y
    ending_now u q =
        let w = ending_then u (sym (ap (λ (z : Tables). z.ending) is) ∙ q) in
        let r = running.ending u w.0 in (
          r.0,
          call_is ∙ w.1 r.0 r.1,
          r.2,
          request_is ∙ r.3,
          λ v i same. r.4 v (subst (λ (z : Tables). In v z.uses.labels) tables_are i) same,
        )

    pub idle_now : y.call ≡ None → y.request ≡ None
    idle_now none = request_is ∙ idle_then (sym call_is ∙ none)

    pub asking_now : AsksForCall y
    asking_now c open_is busy =
        let still : m.request ≡ None → ⊥ = λ q. busy (request_is ∙ q) in
        let same : y ≡ beside m y =
        tables_are
        ∙ ap (λ (o : Option Labelled). record m {
          lengths = x.lengths;
          gives = x.gives;
          leaving = x.leaving;
          ending = o;
          call = x.call;
          sites = y.sites;
          floors = y.floors;
        }) (none_ended still)
        ∙ ap (beside m) (sym tables_are) in
        asks_beside m y c.call same (running.asking c (open_was c (sym call_is ∙ open_is)) still)

    pub tidy_now : IsTidy script.roster m → IsTidy script.roster (record m { sites = y.sites; floors = y.floors })
        → IsTidy script.roster y
    tidy_now tidy sited = subst (IsTidy script.roster) (sym tables_are)
        (tidy_stays script.roster (record m { sites = y.sites; floors = y.floors }) (record m {
          lengths = x.lengths;
          gives = x.gives;
          leaving = x.leaving;
          ending = x.ending;
          call = x.call;
          sites = y.sites;
          floors = y.floors;
        }) sited (record {
          host_is = refl;
          servers = refl;
          held = λ t i. inl i;
          sizes = λ fid. inl refl;
          leaving = λ z i. inl (it.forgets.leaving_from z i).0;
          gives = λ z g i q. inl (it.forgets.gives_from z i).0;
          fetch = λ f q. inl q;
          change = λ v c q. inl q;
          call = λ c q. inl (open_was c q);
          homes = λ h i. inl i;
          floors = λ f i. inl i;
        }))
