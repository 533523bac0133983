-- A token that comes to a host in a run, and that it uses, hasn't left it before.
use Rattle.std.proofs.Common.{◌≡◌, ℕ, ◌∙◌, List, ap, inl, inr, refl, subst, sym}
use Rattle.base_types.specs.declared.ids.Fid.{Fid}
use Rattle.base_types.specs.declared.ids.HostId.{HostId}
use Rattle.base_types.specs.declared.ids.ServerId.{ServerId}
use Rattle.message_types.specs.declared.message.Body.{Body}
use Rattle.message_types.specs.declared.message.Body.TheVariants.{Done, Grant}
use Rattle.message_types.specs.declared.telling.Bring.{Bring}
use Rattle.token_types.specs.declared.token.Token.{Token}
use Rattle.run_rules.specs.Doings.{Doing, SentTo}
use Rattle.run_rules.specs.Messages.{ComesIn, epoch_at, home}
use Rattle.run_rules.specs.Past.{In}
use Rattle.run_rules.specs.Tokens.{AboveFloor, AnswersRequest, Uses}
use Rattle.run_tokens.specs.TokenLaws.{HasLeftHost}
use Rattle.run_rules.specs.declared.step.Step.{Step}
use Rattle.run_tokens.proofs.Invariant.{Brought, Link, Served}

module _ (h : HostId) (A : List Step) (S : ServerId → List Doing) (s : Step) (served : (v : ServerId) → Served v (S v))
    (link : (v : ServerId) → Link h v A (S v))
    (came : (v : ServerId) (e n : ℕ) (b : Body) → ComesIn s v e n b → SentTo (S v) h e n b) where
  abbrev at : Bring → ServerId
  at w = home w.fid.fileset

  abbrev BroughtAt : Bring → Token → Type 0
  BroughtAt w t = Brought (S (at w)) h (epoch_at A (at w)) w 0 t

  brought : (w : Bring) (t : Token) → AnswersRequest A s w → In t w.tokens → BroughtAt w t
  brought w t (inl (g, c, e, _)) i =
      subst (λ (b : Bring). Brought (S (at w)) h (epoch_at A (at w)) b 0 t) e
      ((served (at w)).grants h (epoch_at A (at w)) 0 g t (came (at w) (epoch_at A (at w)) 0 (Grant g) c)
      (subst (λ (b : Bring). In t b.tokens) (sym e) i))
  brought w t (inr (d, c, e, _, _)) i =
      subst (λ (b : Bring). Brought (S (at w)) h (epoch_at A (at w)) b 0 t) e
      ((served (at w)).dones h (epoch_at A (at w)) 0 d t (came (at w) (epoch_at A (at w)) 0 (Done d) c)
      (subst (λ (b : Bring). In t b.tokens) (sym e) i))

  pub unreturned : (w : Bring) (t : Token) → Uses A s w → In t w.tokens → HasLeftHost A t.id → ⊥
  unreturned w t uses i l =
      let b = brought w t uses.0 i in
      let x = (link (at w)).left t.id ((served (at w)).id t _ b.issued) l in
      let u = (served (at w)).unique x.token t x.mark (record { moves = 0; stamp = w.stamp }) x.issued b.issued x.same in
      x.passed (ap (λ (z : Token). z.id.epoch) u.0 ∙ b.epoch_is)
      (subst (λ (y : Fid × ℕ). AboveFloor A y.0 y.1) (λ j. ((sym u.0 j).fid, (sym u.1 j).stamp))
      (subst (λ (f : Fid). AboveFloor A f w.stamp) (sym b.file) uses.1))
