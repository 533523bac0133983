-- Tokens are asked back, those of a host and a file at once.
use Rattle.std.proofs.Common.{◌≡◌, ◌≤◌, ◌<◌, ◌∙◌, ◌==◌, ◌&&◌, ℕ, zero, suc, ◌+◌, Bool, true, false, not}
use Rattle.std.proofs.Common.{List, [], ◌∷◌, ◌++◌, length, map, Some, None, refl, sym, ap, subst, arith, eq-eqb}
use Rattle.std.specs.Prelude.{Option, slice_get}
use Rattle.std.specs.List.{filter}
use Rattle.std.proofs.lemmas.Bool.{and_from}
use Rattle.std.proofs.lemmas.List.{append-nil, append_assoc}
use Rattle.base_types.specs.Ids.{same_fid}
use Rattle.message_types.specs.declared.message.Body.TheVariants.{Revoke}
use Rattle.message_types.specs.declared.message.Message.{Message}
use Rattle.message_types.specs.declared.tokens.Revoke.{Revoke as RevokeOf}
use Rattle.token_manager.specs.Managers.{Manager}
use Rattle.token_types.specs.declared.token.Token.{Token}
use Rattle.token_types.specs.declared.token.TokenId.{TokenId}
use Rattle.server_tables.specs.Updates.{stamped}
use Rattle.server_tables.specs.declared.tables.Tables.{Tables}
use Rattle.server_takes.specs.Drafts.{saying, word}
use Rattle.server_takes.specs.Taking.{Made, made}
use Rattle.server_takes.specs.declared.draft.Draft.{Draft}
use Rattle.server_says.specs.Revoking.{Asking, all_revoked, asked, asked_all, asking_back, asking_of}
use Rattle.server_says.specs.Revoking.{askings_for, ids_beside, not_beside, revoking}

-- # Those of a host and a file

itself : (t : Token) → not_beside t t ≡ false
itself t = ap not (and_from (t.host.0 == t.host.0) (same_fid t.fid t.fid) (eq-eqb t.host.0 t.host.0 refl)
    (and_from ((t.fid.fileset.0 == t.fid.fileset.0) && (t.fid.anode == t.fid.anode)) (t.fid.unique == t.fid.unique)
    (and_from (t.fid.fileset.0 == t.fid.fileset.0) (t.fid.anode == t.fid.anode)
    (eq-eqb t.fid.fileset.0 t.fid.fileset.0 refl) (eq-eqb t.fid.anode t.fid.anode refl))
    (eq-eqb t.fid.unique t.fid.unique refl)))

filter_none : (p : Token → Bool) (t : Token) (ts : List Token) → p t ≡ false → filter p (t ∷ ts) ≡ filter p ts
filter_none p t ts e = rw e refl

filter_some : (p : Token → Bool) (t : Token) (ts : List Token) → p t ≡ true → filter p (t ∷ ts) ≡ t ∷ filter p ts
filter_some p t ts e = rw e refl

filter_short : (p : Token → Bool) (ts : List Token) → length (filter p ts) ≤ length ts
filter_short p [] = omega arith
filter_short p (t ∷ ts) = by (filter_short p ts) (p t) refl
  where
    by : length (filter p ts) ≤ length ts → (b : Bool) → p t ≡ b → length (filter p (t ∷ ts)) ≤ suc (length ts)
    by k true e = subst (λ (l : List Token). length l ≤ suc (length ts)) (sym (filter_some p t ts e)) (omega (arith, k))
    by k false e = subst (λ (l : List Token). length l ≤ suc (length ts)) (sym (filter_none p t ts e))
        (omega (arith, k))

left_short : (t : Token) (ts : List Token) → length (filter (not_beside t) (t ∷ ts)) ≤ length ts
left_short t ts = subst (λ (l : List Token). length l ≤ length ts) (sym (filter_none (not_beside t) t ts (itself t)))
    (filter_short (not_beside t) ts)

-- more rounds than tokens change nothing
enough : (n m stamp : ℕ) (ts : List Token) → length ts ≤ n → length ts ≤ m
    → askings_for n stamp ts ≡ askings_for m stamp ts
enough zero zero stamp ts l k = refl
enough zero (suc m) stamp [] l k = refl
enough zero (suc m) stamp (t ∷ ts) l k = absurd (omega (arith, l))
enough (suc n) zero stamp [] l k = refl
enough (suc n) zero stamp (t ∷ ts) l k = absurd (omega (arith, k))
enough (suc n) (suc m) stamp [] l k = refl
enough (suc n) (suc m) stamp (t ∷ ts) l k =
    let f = left_short t ts in
    ap (λ (rs : List Asking). asking_of stamp t (t ∷ ts) ∷ rs)
    (enough n m (stamp + 1) (filter (not_beside t) (t ∷ ts)) (omega (arith, f, l)) (omega (arith, f, k)))

-- # One after the other

first_is : (left : List Token) (t : Token) → slice_get left 0 ≡ Some t → (ts : List Token) × (left ≡ t ∷ ts)
first_is [] t e = absurd (cc)
first_is (x ∷ xs) t e = let q : x ≡ t = cc in (xs, ap (λ (z : Token). z ∷ xs) q)

none_left : (left : List Token) → slice_get left 0 ≡ None → left ≡ []
none_left [] e = refl
none_left (x ∷ xs) e = absurd (cc)

module _ (t : Tables) (d : Draft) (first : Token) (ts : List Token) where
  abbrev one : Asking
  one = asking_of t.stamp first (first ∷ ts)

  abbrev rest : List Token
  rest = filter (not_beside first) (first ∷ ts)

  abbrev with_rest : Draft → List Asking → Made
  with_rest e rs = made (asked_all (asked t one.revoke) rs) (record e { sent = e.sent ++ map (revoking t) rs })

  ask_more : asking_back (asked t one.revoke) (saying d (revoking t one)) rest ≡ asking_back t d (first ∷ ts)
  ask_more =
      ap (with_rest (saying d (revoking t one)))
      (enough (length rest) (length ts) (t.stamp + 1) rest (omega arith) (left_short first ts))
      ∙ ap (λ (ms : List Message). made (asked_all (asked t one.revoke) (askings_for (length ts) (t.stamp + 1) rest))
      (record d { sent = ms }))
      (append_assoc d.sent (revoking t one ∷ []) (map (revoking t) (askings_for (length ts) (t.stamp + 1) rest)))

-- those beside the first one are asked back, and then the rest
pub ask_on : (t u : Tables) (d e : Draft) (first : Token) (left after : List Token) → slice_get left 0 ≡ Some first
    → u ≡ asked t (asking_of t.stamp first left).revoke
    → e ≡ saying d (revoking t (asking_of t.stamp first left)) → after ≡ filter (not_beside first) left
    → asking_back u e after ≡ asking_back t d left
ask_on t u d e first left after h p q r =
    let f = first_is left first h in
    ap (λ (z : Tables). asking_back z e after) p
    ∙ ap (λ (w : Draft). asking_back (asked t (asking_of t.stamp first left).revoke) w after) q
    ∙ ap (λ (l : List Token). asking_back (asked t (asking_of t.stamp first left).revoke)
    (saying d (revoking t (asking_of t.stamp first left))) l) r
    ∙ subst (λ (l : List Token). asking_back (asked t (asking_of t.stamp first l).revoke)
    (saying d (revoking t (asking_of t.stamp first l))) (filter (not_beside first) l) ≡ asking_back t d l)
    (sym f.1) (ask_more t d first f.0)

-- fewer are left
pub ask_less : (first : Token) (left after : List Token) → slice_get left 0 ≡ Some first
    → after ≡ filter (not_beside first) left → length after < length left
ask_less first left after h r =
    let f = first_is left first h in
    let k = left_short first f.0 in
    subst (λ (l : List Token). length after < length l) (sym f.1)
    (subst (λ (l : List Token). length l < suc (length f.0)) (sym (r ∙ ap (filter (not_beside first)) f.1))
    (omega (arith, k)))

pub none_first : (left : List Token) (o : Option Token) → o ≡ slice_get left 0 → ((t : Token) → o ≡ Some t → ⊥)
    → slice_get left 0 ≡ None
none_first [] o e none = refl
none_first (t ∷ ts) o e none = absurd (none t e)

-- none is left
pub ask_none : (t : Tables) (d : Draft) (left : List Token) → slice_get left 0 ≡ None
    → asking_back t d left ≡ made t d
ask_none t d left e =
    ap (asking_back t d) (none_left left e) ∙ ap (λ (ms : List Message). made t (record d { sent = ms }))
    (append-nil d.sent)

-- # One of them

-- `m`: its tokens are marked; `y`: the stamp is given
module _ (x y : Tables) (m : Manager) (first : Token) (tokens : List Token) (ids named : List TokenId)
    (are : ids ≡ ids_beside first tokens) (same : named ≡ ids) (marks : m ≡ all_revoked x.tokens named)
    (stamps : y ≡ stamped (record x { tokens = m })) where
  pub asked_one : y ≡ asked x (asking_of x.stamp first tokens).revoke
  asked_one = stamps ∙ ap (λ (n : Manager). stamped (record x { tokens = n }))
      (marks ∙ ap (λ (l : List TokenId). all_revoked x.tokens l) (same ∙ are))

  abbrev with_ids : ℕ → List TokenId → RevokeOf
  with_ids stamp l = record { fid = first.fid; stamp = stamp; ids = l }

  pub said_one : (d e : Draft) (stamp : ℕ) → stamp ≡ x.stamp + 1
      → e ≡ saying d (word y first.host (Revoke (with_ids stamp ids)))
      → e ≡ saying d (revoking x (asking_of x.stamp first tokens))
  said_one d e stamp s says =
      says
      ∙ ap (λ (z : Tables). saying d (word z first.host (Revoke (with_ids stamp ids)))) stamps
      ∙ ap (λ (n : ℕ). saying d (word x first.host (Revoke (with_ids n ids)))) s
      ∙ ap (λ (l : List TokenId). saying d (word x first.host (Revoke (with_ids (x.stamp + 1) l)))) are
