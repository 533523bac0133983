-- What goes from one to the next goes on.
use Rattle.std.proofs.Common.{List, [], ◌∷◌, ◌++◌, refl, sym, subst}
use Rattle.server_says.specs.Running.{GoesTo, IsChain}

module _ {A : Type 0} (Goes : A → A → Type 0) where
  pub goes_none : (a : A) → GoesTo Goes a a
  goes_none a = ([], refl)

  chain_more : (a : A) (more : List A) (b c : A) → IsChain Goes a more b → Goes b c → IsChain Goes a (more ++ c ∷ []) c
  chain_more a [] b c e g = (subst (λ (z : A). Goes z c) (sym e) g, refl)
  chain_more a (x ∷ xs) b c p g = (p.0, chain_more x xs b c p.1 g)

  pub goes_more : (a b c : A) → GoesTo Goes a b → Goes b c → GoesTo Goes a c
  goes_more a b c r g = (r.0 ++ c ∷ [], chain_more a r.0 b c r.1 g)

  chain_keeps : (P : A → Type 0) → ((b c : A) → P b → Goes b c → P c) → (a : A) (more : List A) (z : A)
      → IsChain Goes a more z → P a → P z
  chain_keeps P on a [] z e p = subst P e p
  chain_keeps P on a (b ∷ more) z c p = chain_keeps P on b more z c.1 (on a b p c.0)

  -- what each of them keeps holds at the end
  pub goes_keeps : (P : A → Type 0) → ((b c : A) → P b → Goes b c → P c) → (a z : A) → GoesTo Goes a z → P a → P z
  goes_keeps P on a z r p = chain_keeps P on a r.0 z r.1 p
