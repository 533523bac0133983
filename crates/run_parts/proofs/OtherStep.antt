-- A step of another host keeps what a host shares with a server and the tree.
use Rattle.std.proofs.Common.{◌≡◌, ℕ, ◌<◌, ◌≤◌, ◌⊎◌, true, Option, Some, None, List, inl, inr, sym, ◌∙◌, ap, subst}
use Rattle.std.proofs.Common.{refl}
use Rattle.base_types.specs.declared.ids.HostId.{HostId}
use Rattle.base_types.specs.declared.ids.ServerId.{ServerId}
use Rattle.base_types.specs.declared.ids.Fid.{Fid}
use Rattle.token_types.specs.declared.token.Token.{Token}
use Rattle.message_types.specs.declared.message.Body.TheVariants.{Grant}
use Rattle.message_types.specs.declared.telling.Grant.{Grant as GrantOf}
use Rattle.message_types.specs.declared.giving.Give.{Give}
use Rattle.run_rules.specs.declared.step.Step.{Step}
use Rattle.run_rules.specs.Doings.{Doing, HasGoneAway, SentTo}
use Rattle.run_rules.specs.Messages.{Asking, epoch_at}
use Rattle.run_rules.specs.Past.{In}
use Rattle.run_rules.specs.Tokens.{AboveFloor}
use Rattle.run_tokens.proofs.Owed.{Owed}
use Rattle.run_tokens.proofs.Invariant.{Served, Link}
use Rattle.tree_laws.specs.Parts.{Part, Seen, Cell, present}
use Rattle.tree_laws.specs.Parts.Part.{ByteAt, Size}
use Rattle.need_host.specs.Shows.{shows}
use Rattle.run_parts.specs.Cells.{by, written}
use Rattle.run_parts.specs.Deeds.{Deed, acts_in}
use Rattle.run_parts.specs.Contents.{Contents, site, OwnsUpdate}
use Rattle.run_parts.specs.Legal.{Cells}
use Rattle.run_parts.proofs.Cells.{none_of, by_same, unwritten, kept_written}
use Rattle.run_parts.specs.Contents.{Pending}
use Rattle.run_parts.proofs.Invariant.{Alike, Open, Shown, Writes, owner_writes, open_writes}

-- host j has the steps B, host k writes `wrote`, and over no token that is owed to j
module _ (c : Contents) (j : HostId) (v : ServerId) (B : List Step) (k : HostId) (wrote : Fid → (p : Part)
    → Option (Seen p)) (cells : Cells) (D : List Deed) (served : Served v (acts_in D)) (link : Link j v B (acts_in D))
    (seen : Alike c B) (shown : Shown c j B cells v D) (two : j ≡ k → ⊥) (foreign : (p : Part) (x : Seen p) (t : Token)
    → site t.fid ≡ v → Owed v (acts_in D) t → (t.host ≡ k → ⊥) → shows t.kind p ≡ true → wrote t.fid p ≡ Some x
    → ⊥) where
  abbrev S : List Doing
  S = acts_in D

  unwritten_under : (p : Part) (f : Fid) (t : Token) → site f ≡ v → Owed v S t → t.host ≡ j → t.fid ≡ f
      → shows t.kind p ≡ true → cells f p ≡ written k (wrote f p) (cells f p)
  unwritten_under p f t home o mine same cov =
      sym (unwritten k (wrote f p) (cells f p)
      (none_of (wrote f p) (λ x e. foreign p x t (ap site same ∙ home) o (λ q. two (sym mine ∙ q)) cov
      (subst (λ g. wrote g p ≡ Some x) (sym same) e))))

  unwritten_by : (p : Part) (f : Fid) → site f ≡ v → Writes v S j f p → cells f p ≡ written k (wrote f p) (cells f p)
  unwritten_by p f home w = unwritten_under p f w.token home w.owed w.host w.file w.covers

  owner : (p : Part) (f : Fid) → site f ≡ v → (HasGoneAway S j → ⊥) → OwnsUpdate B f p → Writes v S j f p
  owner = owner_writes c j B cells v D served link seen shown

  giver : (p : Part) (f : Fid) (x : Seen p) (g : Give) → site f ≡ v → (HasGoneAway S j → ⊥) → Open c B v S j f p x g
      → Writes v S j f p
  giver = open_writes c j B cells v D served link seen shown

  mine' : (p : Part) (f : Fid) (x : Seen p) → site f ≡ v → (written k (wrote f p) (cells f p)).unsaved ≡ Some (by j x)
      → (HasGoneAway S j → ⊥) × (Pending c B f p ⊎ ((g : Give) × Open c B v S j f p x g))
  mine' p f x home = go (wrote f p)
    where
      go : (o : Option (Seen p)) → (written k o (cells f p)).unsaved ≡ Some (by j x) → (HasGoneAway S j → ⊥)
          × (Pending c B f p ⊎ ((g : Give) × Open c B v S j f p x g))
      go None e = shown.mine p f x home e
      go (Some y) e = absurd (two (sym (by_same k j y x e).0))

  flight' : (e n : ℕ) (p : Part) (w : GrantOf) (t : Token) → site w.bring.fid ≡ v → SentTo S j e n (Grant w)
      → e ≡ epoch_at B v → Asking B w.bring.fid.fileset w.bring.number → AboveFloor B w.bring.fid w.bring.stamp
      → In t w.bring.tokens → shows t.kind p ≡ true → (HasGoneAway S j → ⊥)
      → c.tells w p ≡ present (written k (wrote w.bring.fid p) (cells w.bring.fid p))
  flight' e n p w t home sent now asking above m cov up =
      let i = served.grants j e n w t sent m in
      let o = link.in_flight t (record { moves = n; stamp = w.bring.stamp }) i.issued i.host (i.epoch_is ∙ now)
      (subst (λ x. AboveFloor B x w.bring.stamp) (sym i.file) above) up in
      shown.flight e n p w t home sent now asking above m cov up
      ∙ ap (λ (z : Cell (Seen p)). present z) (unwritten_under p w.bring.fid t home o i.host i.file cov)

  pub shown_other : Shown c j B (λ f p. written k (wrote f p) (cells f p)) v D
  shown_other = record {
    cached = λ p t home o cov up. let g = link.held t (seen.owned_at t o ∙ home) o in
        shown.cached p t home o cov up ∙ ap (λ (z : Cell (Seen p)). present z)
        (unwritten_under p t.fid t home (g.owed up) g.host refl cov);
    flight = flight';
    mine = mine';
    open_under = shown.open_under;
    asked = shown.asked;
    asked_given = shown.asked_given;
    asked_for = shown.asked_for;
    blind = shown.blind;
    dirty_is = λ q f home d up. ap (λ (z : Cell ℕ). z.unsaved)
        (sym (unwritten_by (ByteAt q) f home (owner (ByteAt q) f home up (seen.dirty_owned q f d))))
        ∙ shown.dirty_is q f home d up;
    open_is = λ q f x g home o up. ap (λ (z : Cell ℕ). z.unsaved)
        (sym (unwritten_by (ByteAt q) f home (giver (ByteAt q) f x g home up o))) ∙ shown.open_is q f x g home o up;
    open_free = shown.open_free;
    open_once = shown.open_once;
    size_open = λ f x g home o up. subst (λ (z : Cell ℕ). (z.kept ≤ x)
        × (x ≤ present z)) (unwritten_by Size f home (giver Size f x g home up o)) (shown.size_open f x g home o up);
    open_order = shown.open_order;
    since_le = shown.since_le;
    settled = λ f g home u m made file has applied up. ap (λ (z : Cell ℕ). z.unsaved)
        (sym (unwritten_by Size f home (owner Size f home up u))) ∙ shown.settled f g home u m made file has applied up;
    open_below = λ q f x g home o up. elim (shown.open_below q f x g home o up)
        [ inl lt ↦ inl (subst (λ y. q < y) (sym (kept_written k (wrote f Size) (cells f Size))) lt) | inr r ↦ inr r ];
  }
