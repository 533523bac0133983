-- Which tokens a server may have granted, which stamps it told, what it revoked and pinned: as plain data.
use Rattle.std.proofs.Common.{Bool, List, [], ap, false, inl, inr, refl, subst, sym, true}
use Rattle.std.proofs.Common.{ℕ, ◌&&◌, ◌++◌, ◌<◌, ◌||◌, ◌∙◌, ◌∷◌, ◌≡◌}
use Rattle.std.proofs.lemmas.Bool.{and_parts, ltb-true, or_cases}
use Rattle.std.specs.Prelude.{nat_lt, not}
use Rattle.std.specs.List.{list_all}
use Rattle.base_types.specs.Ids.{same_fid}
use Rattle.base_types.specs.declared.ids.Fid.{Fid}
use Rattle.base_types.specs.declared.ids.ServerId.{ServerId}
use Rattle.message_types.specs.declared.message.Body.TheVariants.{Grant, Done, Revoke, Kept}
use Rattle.message_types.specs.declared.telling.Bring.{Bring}
use Rattle.token_types.specs.declared.token.Token.{Token}
use Rattle.run_rules.specs.Doings.{Doing, Granted, HasUsedStamp, Issued, Issues, NoGrace, Pinned, Reserved, StayStamp}
use Rattle.run_rules.specs.Doings.{UsesStamp}
use Rattle.run_rules.specs.Doings.Doing.{Admits, Reserves, Sent, Took}
use Rattle.run_rules.specs.Past.{In}
use Rattle.run_examples.proofs.Tests.{at_all, fids, implies, in_back, in_front, is_none, is_not, none_in, so}
use Rattle.run_examples.proofs.ServerWords.{begin_yes, begins, heard, listed_heard, reclaimed, reclaimed_yes}

-- all tokens that were ever brought or granted again
unfoldable pub brings : Doing → List Token
brings (Sent h e n (Grant g)) = g.bring.tokens
brings (Sent h e n (Done d)) = d.bring.tokens
brings (Admits h tokens) = tokens
brings _ = []

unfoldable pub brought_ever : List Doing → List Token
brought_ever [] = []
brought_ever (a ∷ past) = brings a ++ brought_ever past

pub issues_in : (a : Doing) (t : Token) (k : StayStamp) → Issues a t k → In t (brings a)
unfolding brings
issues_in a t k (h, e, w, inl (g, is, b), m, q) =
    subst (λ x. In t (brings x)) (sym is) (subst (λ (x : Bring). In t x.tokens) (sym b) m)
issues_in a t k (h, e, w, inr (d, is, b), m, q) =
    subst (λ x. In t (brings x)) (sym is) (subst (λ (x : Bring). In t x.tokens) (sym b) m)

pub issued_in : (past : List Doing) (t : Token) (k : StayStamp) → Issued past t k → In t (brought_ever past)
unfolding brought_ever
issued_in [] t k x = elim x [ ]
issued_in (a ∷ past) t k (inl x) = in_front t (brings a) (brought_ever past) (issues_in a t k x)
issued_in (a ∷ past) t k (inr x) = in_back t (brings a) (brought_ever past) (issued_in past t k x)

pub granted_in : (server : ServerId) (past : List Doing) (t : Token) → Granted server past t → In t (brought_ever past)
unfolding brought_ever brings
granted_in server [] t x = elim x [ ]
granted_in server (a ∷ past) t (inl (inl (k, x))) = in_front t (brings a) (brought_ever past) (issues_in a t k x)
granted_in server (a ∷ past) t (inl (inr (tokens, is, m))) =
    in_front t (brings a) (brought_ever past) (subst (λ x. In t (brings x)) (sym is) m)
granted_in server (a ∷ past) t (inr (g, _, _, _)) = in_back t (brings a) (brought_ever past) (granted_in server past t g)

-- all stamps of a file in this epoch lie below one
unfoldable pub is_below : Fid → ℕ → Doing → Bool
is_below fid stamp (Sent h e n (Grant g)) = implies (same_fid g.bring.fid fid) (nat_lt g.bring.stamp stamp)
is_below fid stamp (Sent h e n (Done d)) = implies (same_fid d.bring.fid fid) (nat_lt d.bring.stamp stamp)
is_below fid stamp (Sent h e n (Revoke r)) = implies (same_fid r.fid fid) (nat_lt r.stamp stamp)
is_below fid stamp _ = true

unfoldable pub told_below : Fid → ℕ → List Doing → Bool
told_below fid stamp [] = true
told_below fid stamp (a ∷ past) = is_below fid stamp a && (begins a || told_below fid stamp past)

lower : (fid its : Fid) (x y stamp : ℕ) → its ≡ fid → x ≡ y → implies (same_fid its fid) (nat_lt x stamp) ≡ true
    → y < stamp
lower fid its x y stamp f s t =
    subst (λ z. z < stamp) s (ltb-true x stamp (so (same_fid its fid) (nat_lt x stamp) t (fids its fid f)))

pub told_is : (fid : Fid) (stamp : ℕ) (past : List Doing) (x : ℕ) → told_below fid stamp past ≡ true → HasUsedStamp past fid x
    → x < stamp
unfolding told_below is_below
told_is fid stamp [] x t y = elim y [ ]
told_is fid stamp (a ∷ past) x t (inl y) = go y
  where
    p : (is_below fid stamp a ≡ true) × ((begins a || told_below fid stamp past) ≡ true)
    p = and_parts (is_below fid stamp a) (begins a || told_below fid stamp past) t

    go : UsesStamp a fid x → x < stamp
    go (inl (h, e, n, w, inl (g, is, b), f, s)) =
        lower fid g.bring.fid g.bring.stamp x stamp (ap (λ (z : Bring). z.fid) b ∙ f) (ap (λ (z : Bring). z.stamp) b ∙ s)
        (subst (λ z. is_below fid stamp z ≡ true) is p.0)
    go (inl (h, e, n, w, inr (d, is, b), f, s)) =
        lower fid d.bring.fid d.bring.stamp x stamp (ap (λ (z : Bring). z.fid) b ∙ f) (ap (λ (z : Bring). z.stamp) b ∙ s)
        (subst (λ z. is_below fid stamp z ≡ true) is p.0)
    go (inr (h, e, n, r, is, f, s)) =
        lower fid r.fid r.stamp x stamp f s (subst (λ z. is_below fid stamp z ≡ true) is p.0)
told_is fid stamp (a ∷ past) x t (inr (y, quiet)) =
    let p = and_parts (is_below fid stamp a) (begins a || told_below fid stamp past) t in
    elim (or_cases (begins a) (told_below fid stamp past) p.1) [
      | inl z ↦ absurd (quiet (begin_yes a z))
      | inr z ↦ told_is fid stamp past x z y
    ]

-- no Kept was taken, no Revoke sent, nothing kept by the exporter
unfoldable pub is_kept : Doing → Bool
is_kept (Took h e n (Kept named)) = true
is_kept _ = false

pub none_pinned : (server : ServerId) (past : List Doing) (t : Token) → list_all (λ a. not (is_kept a)) past ≡ true
    → Pinned server past t → ⊥
unfolding is_kept
none_pinned server [] t e x = elim x [ ]
none_pinned server (a ∷ past) t e (inl (named, (n, here, (is, live)), _, _, _), g) =
    let p = and_parts (not (is_kept a)) (list_all (λ a. not (is_kept a)) past) e in
    is_not (is_kept a) p.0 (subst (λ x. is_kept x ≡ true) (sym is) refl)
none_pinned server (a ∷ past) t e (inr x, g) =
    none_pinned server past t (and_parts (not (is_kept a)) (list_all (λ a. not (is_kept a)) past) e).1 x

unfoldable pub keeps_none : Doing → Bool
keeps_none (Reserves tokens) = is_none tokens
keeps_none _ = true

pub none_kept : (past : List Doing) (t : Token) → list_all keeps_none past ≡ true → Reserved past t → ⊥
unfolding keeps_none
none_kept [] t e x = elim x [ ]
none_kept (a ∷ past) t e (inl (tokens, is, m)) =
    let p = and_parts (keeps_none a) (list_all keeps_none past) e in
    none_in tokens t (subst (λ x. keeps_none x ≡ true) is p.0) m
none_kept (a ∷ past) t e (inr (x, quiet)) =
    none_kept past t (and_parts (keeps_none a) (list_all keeps_none past) e).1 x

-- each host that was heard has reclaimed
pub no_grace : (past : List Doing) → list_all (reclaimed past) (heard past) ≡ true → NoGrace past
no_grace past e h live = reclaimed_yes past h (at_all (reclaimed past) (heard past) h e (listed_heard past h live.0))
