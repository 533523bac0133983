-- A Change that comes again is answered once more: the rules let it be sent.
use Rattle.std.proofs.Common.{◌≡◌, ◌⊎◌, ℕ, true, List, [], Some, inl, inr, sym, ◌∙◌, subst}
use Rattle.base_types.specs.declared.ids.HostId.{HostId}
use Rattle.tree_answers.specs.declared.tree.Tree.{Tree}
use Rattle.token_types.specs.declared.token.Token.{Token}
use Rattle.message_types.specs.declared.asking.Change.{Change as ChangeOf}
use Rattle.message_types.specs.declared.message.Body.TheVariants.{Done}
use Rattle.message_types.specs.declared.telling.Done.{Done as DoneOf}
use Rattle.run_rules.specs.Doings.{Doing, Granted, IsLive, SentTo}
use Rattle.run_rules.specs.Doings.Doing.{Sent}
use Rattle.run_rules.specs.Past.{In}
use Rattle.run_rules.specs.ServerDecides.{IsDecidedHere}
use Rattle.run_rules.specs.ServerMay.{DoneFor, MaySend}
use Rattle.run_rules.specs.ServerTokens.{AskedChange, MayBring, ServerTokens}
use Rattle.run_rules.specs.declared.step.Step.{Step}
use Rattle.server_tables.specs.Answers.{answer_again, is_old}
use Rattle.server_tables.specs.Standing.{Stands}
use Rattle.server_tables.specs.declared.tables.Tables.{Tables}
use Rattle.server_tables.proofs.Again.{again_brings, again_for, again_of_change, is_again}

module _ (past : List Doing) (x : Tables) (z : Stands past x) (h : HostId) (c : ChangeOf) (live : IsLive past h)
    (here : IsDecidedHere x.server past c.fileset 0) (old : is_old x h c ≡ true) (d : DoneOf)
    (again : answer_again x h c ≡ Some d) where
  abbrev told : Doing
  told = Sent h x.hosts.epoch 0 (Done d)

  its_done : (k : HostId) (e n : ℕ) (o : DoneOf) → told ≡ Sent k e n (Done o) → d ≡ o
  its_done k e n o p = cc

  abbrev Brings : ℕ → Type 0
  Brings e = (d.bring.tokens ≡ []) ⊎ ((MayBring x.server past h 0 d.bring × AskedChange past h 0 d)
      ⊎ (SentTo past h e 0 (Done d) × ((t : Token) → In t d.bring.tokens → Granted x.server past t)))

  brings : Brings x.hosts.epoch
  brings = subst Brings (sym z.hosts.epoch_is)
      (elim (again_brings past x z h c old d (is_again x h c d again)) [ inl e ↦ inl e | inr s ↦ inr (inr s) ])

  pub again_tokens : ServerTokens x.server past told
  again_tokens = record {
    epochs = λ k e m b q. (let r : x.hosts.epoch ≡ e = cc in sym r) ∙ z.hosts.epoch_is;
    grants = λ k e m o q. absurd (cc);
    dones = λ k e m o q.
        (let r = its_done k e m o q in let i : h ≡ k = cc in let j : 0 ≡ m = cc in
        let l : x.hosts.epoch ≡ e = cc in
        subst (λ (y : HostId × ℕ × ℕ × DoneOf). (y.3.bring.tokens ≡ [])
        ⊎ ((MayBring x.server past y.0 y.2 y.3.bring × AskedChange past y.0 y.2 y.3)
        ⊎ (SentTo past y.0 y.1 y.2 (Done y.3) × ((t : Token) → In t y.3.bring.tokens → Granted x.server past t))))
        (λ s. (i s, l s, j s, r s)) brings);
    revokes = λ k e m r i q. absurd (cc);
    revokes_here = λ k e m r q. absurd (cc);
    stamps = λ k e m o r q. absurd (cc);
    gones = λ k e m o q. absurd (cc);
    reclaimed = λ k e m r o q. absurd (cc);
    left_out = λ k e m r i q. absurd (cc);
    admits = λ k ts q. absurd (cc);
    writes = λ v q. absurd (cc);
    writes_once = λ v q. absurd (cc);
    reserves = λ ts t u q. absurd (cc);
  }

  -- it is of a Change that is decided here
  home : IsDecidedHere x.server past d.fileset 0
  home = subst (λ f. IsDecidedHere x.server past f 0)
      (sym (again_of_change past x z h c old d (is_again x h c d again)).0) here

  pub again_may : (tree : Tree) (s : Step) → MaySend x.server tree s past told
  again_may tree s = record {
    grant_for = λ k e m o q. absurd (cc);
    done_for = λ k e m o q.
        (let r = its_done k e m o q in let i : h ≡ k = cc in let j : 0 ≡ m = cc in
        subst (λ (y : HostId × ℕ × DoneOf). IsLive past y.0 × IsDecidedHere x.server past y.2.fileset y.1
        × DoneFor x.server tree past y.0 y.1 y.2) (λ l. (i l, j l, r l))
        (live, home, again_for past x z h c old d (is_again x h c d again) tree));
    revoke_for = λ k e m r i q. absurd (cc);
  }
