-- Tokens leave, file by file.
use Rattle.std.proofs.Common.{Bool, List, [], ap, cond, false, filter, fold, inl, inr, not, refl, subst, sym, true, ℕ}
use Rattle.std.proofs.Common.{get_or, length, take, ◌&&◌, ◌++◌, ◌+◌, ◌<◌, ◌||◌, ◌∙◌, ◌∷◌, ◌≡◌, ◌⊎◌}
use Rattle.std.specs.List.{list_any}
use Rattle.std.proofs.lemmas.Bool.{and_parts}
use Rattle.std.proofs.lemmas.List.Elements.{filter-append}
use Rattle.std.proofs.lemmas.List.Folds.{list_any_more}
use Rattle.base_types.specs.Ids.{same_fid}
use Rattle.base_types.specs.declared.ids.Fid.{Fid}
use Rattle.host_cache.specs.Holding.{IsOnce}
use Rattle.host_cache.specs.Seen.{seen}
use Rattle.host_tables.specs.Tables.{held_of}
use Rattle.host_tables.specs.declared.draft.Draft.{Draft}
use Rattle.host_tables.specs.declared.tables.Tables.{Tables}
use Rattle.host_tables.proofs.Lists.{fid_same, in_filter, same_fid_is, true_not}
use Rattle.run_rules.specs.Past.{In}
use Rattle.run_rules.specs.declared.applied.Why.{Why}
use Rattle.run_rules.specs.declared.applied.Why.TheVariants.{Revoked}
use Rattle.token_types.specs.declared.token.Token.{Token}
use Rattle.token_types.specs.declared.token.TokenId.{TokenId}
use Rattle.host_leaves.specs.Giving.{AreCovered, GivesWhere, Leaves, shown_without}
use Rattle.host_leaves.specs.Revoking.{AreHeld, AreHeldBeside, LeaveAll, LeavesFile, fids_of, has_file, of_file}
use Rattle.base_types.specs.declared.ids.FilesetId.{FilesetId}
use Rattle.host_labels.specs.Labels.{InUse}
use Rattle.host_leaves.specs.declared.revoking.Sorted.{Sorted}
use Rattle.host_leaves.specs.Revoking.{Answers, keeping_all, pinned, pinned_all, sending_given}
use Rattle.host_leaves.specs.Revoking.{is_lost, others_of, with_lost, with_lost_where}
use Rattle.host_leaves.specs.Revoking.LeaveAll.{FileLeaves, NoneLeft}
use Rattle.host_leaves.proofs.Held.{stays}
use Rattle.host_leaves.proofs.Once.{fid_new, fid_old}

-- one file more
pub one_more : (tokens : List Token) (fids : List Fid) (m : Tables) (draft : Draft) (old : Tables) (before : Draft)
    (fid : Fid) (new : Tables) (after : Draft) → LeaveAll tokens fids [] m draft old before →
    LeavesFile fid tokens [] old before new after → LeaveAll tokens (fids ++ fid ∷ []) [] m draft new after
one_more tokens [] m draft old before fid new after (NoneLeft _ _ _) h =
    subst (λ n. LeaveAll tokens (fid ∷ []) [] m draft n after) (sym h.lost)
    (FileLeaves fid [] [] m h.between (with_lost_where fid (of_file fid tokens) h.between) draft after after h.leaves
    (NoneLeft [] (with_lost_where fid (of_file fid tokens) h.between) after))
one_more tokens (f ∷ fids) m draft old before fid new after (FileLeaves _ _ _ _ b _ _ d _ l r) h =
    FileLeaves f (fids ++ fid ∷ []) [] m b new draft d after l
    (one_more tokens fids (with_lost_where f (of_file f tokens) b) d old before fid new after r h)

pub first_more : (tokens : List Token) (fids : List Fid) (back : List TokenId) (m : Tables) (draft : Draft)
    (fid : Fid) (between : Tables) (middle : Draft) (new : Tables) (after : Draft) →
    LeavesFile fid tokens back m draft between middle → LeaveAll tokens fids [] between middle new after →
    LeaveAll tokens (fid ∷ fids) back m draft new after
first_more tokens fids back m draft fid between middle new after h rest =
    FileLeaves fid fids back m h.between new draft middle after h.leaves
    (subst (λ b. LeaveAll tokens fids [] b middle new after) h.lost rest)

-- the tables but for the cache keep what is held; what isn't known to be lost, too
given_cache : (m : Tables) (draft : Draft) (fid : Fid) (giving leaving : List Token) (new : Tables) (after : Draft) →
    GivesWhere m draft fid giving leaving new after → new.cache ≡ m.cache
given_cache m draft fid [] leaving new after h = ap (λ (t : Tables). t.cache) h.0
given_cache m draft fid (token ∷ giving) leaving new after h = ap (λ (t : Tables). t.cache) h.tables

lost_cache : (fid : Fid) (tokens : List Token) (m : Tables) → (with_lost_where fid tokens m).cache ≡ m.cache
lost_cache fid tokens m = by_test (is_lost fid tokens m)
  where
    by_test : (b : Bool) → (cond b (record m { lost = with_lost fid m.lost }) m).cache ≡ m.cache
    by_test true = refl
    by_test false = refl

-- the tokens of a file are held
pub file_covered : (m : Tables) (fid : Fid) (tokens : List Token) → ((token : Token) → In token tokens →
    same_fid token.fid fid ≡ true → In token (held_of m)) → AreCovered m fid (of_file fid tokens)
file_covered m fid tokens held token i =
    let r = in_filter (λ (t : Token). same_fid t.fid fid) tokens token i in
    (held token r.0 r.1, same_fid_is token.fid fid r.1)

-- where the tokens of a file leave those of others stay
pub others_stay : (fid : Fid) (tokens : List Token) (back : List TokenId) (m : Tables) (draft : Draft)
    (between new : Tables) (after : Draft) → IsOnce m.cache.held →
    Leaves m draft fid (of_file fid tokens) Revoked back between after →
    new ≡ with_lost_where fid (of_file fid tokens) between → AreCovered m fid (of_file fid tokens) →
    (token : Token) → same_fid token.fid fid ≡ false → In token (held_of m) → In token (held_of new)
others_stay fid tokens back m draft between new after once l lost covered token apart i =
    let given : l.given.cache ≡ m.cache = given_cache m draft fid l.giving (of_file fid tokens) l.given l.made l.gives
    in
    let last : new.cache ≡ between.cache =
    ap (λ (t : Tables). t.cache) lost ∙ lost_cache fid (of_file fid tokens) between in
    stays m new (of_file fid tokens) once
    (ap seen last ∙ l.drops.shown ∙ ap (λ k. shown_without (seen k) (of_file fid tokens)) given)
    (λ other k. (covered other k).0) token
    (λ other k. apart_of other.fid (covered other k).1) i
  where
    apart_of : (f : Fid) → f ≡ fid → same_fid token.fid f ≡ false
    apart_of f e = ap (same_fid token.fid) e ∙ apart

-- the others, file by file
module _ (fid : Fid) (tokens : List Token) (i : ℕ) (token : Token) (low : i < length tokens)
    (item : token ≡ get_or tokens i token) where
  others_by : fids_of (take (i + 1) tokens) ≡ fids_of (take i tokens) →
      others_of fid (take i tokens) ≡ others_of fid (take (i + 1) tokens)
  others_by e = sym (ap (filter (λ other. not (same_fid other fid))) e)

  others_seen : not (has_file token.fid (take i tokens)) ≡ false →
      others_of fid (take i tokens) ≡ others_of fid (take (i + 1) tokens)
  others_seen h = others_by (fid_old tokens i token low item (not_false (has_file token.fid (take i tokens)) h))
    where
      not_false : (b : Bool) → not b ≡ false → b ≡ true
      not_false true e = refl
      not_false false e = sym e

  with_new : has_file token.fid (take i tokens) ≡ false → others_of fid (take (i + 1) tokens)
      ≡ others_of fid (take i tokens) ++ cond (not (same_fid token.fid fid)) (token.fid ∷ []) []
  with_new h =
      ap (filter (λ other. not (same_fid other fid))) (fid_new tokens i token low item h)
      ∙ filter-append (λ other. not (same_fid other fid)) (fids_of (take i tokens)) (token.fid ∷ [])

  none_behind : {A : Type 0} (xs : List A) → xs ++ [] ≡ xs
  none_behind [] = refl
  none_behind (x ∷ xs) = ap (λ ys. x ∷ ys) (none_behind xs)

  others_own : same_fid token.fid fid ≡ true →
      others_of fid (take i tokens) ≡ others_of fid (take (i + 1) tokens)
  others_own h = by_test (has_file token.fid (take i tokens)) refl
    where
      by_test : (b : Bool) → has_file token.fid (take i tokens) ≡ b →
          others_of fid (take i tokens) ≡ others_of fid (take (i + 1) tokens)
      by_test true e = others_by (fid_old tokens i token low item e)
      by_test false e =
          sym (with_new e
          ∙ ap (λ b. others_of fid (take i tokens) ++ cond (not b) (token.fid ∷ []) []) h
          ∙ none_behind (others_of fid (take i tokens)))

  pub others_new : same_fid token.fid fid ≡ false → not (has_file token.fid (take i tokens)) ≡ true →
      others_of fid (take i tokens) ++ token.fid ∷ [] ≡ others_of fid (take (i + 1) tokens)
  others_new h k =
      sym (with_new (not_true (has_file token.fid (take i tokens)) k)
      ∙ ap (λ b. others_of fid (take i tokens) ++ cond (not b) (token.fid ∷ []) []) h)
    where
      not_true : (b : Bool) → not b ≡ true → b ≡ false
      not_true true e = sym e
      not_true false e = refl

  -- where the token is of that file, or not the first of its own
  pub others_old : (not (same_fid token.fid fid) && not (has_file token.fid (take i tokens))) ≡ false →
      others_of fid (take i tokens) ≡ others_of fid (take (i + 1) tokens)
  others_old h = by_test (same_fid token.fid fid) refl
    where
      seen_by : (a b : Bool) → (not a && not b) ≡ false → a ≡ false → not b ≡ false
      seen_by true b h e = absurd (cc)
      seen_by false b h e = h

      by_test : (b : Bool) → same_fid token.fid fid ≡ b → others_of fid (take i tokens)
          ≡ others_of fid (take (i + 1) tokens)
      by_test true e = others_own e
      by_test false e = others_seen (seen_by (same_fid token.fid fid) (has_file token.fid (take i tokens)) h e)

  -- fewer are left to be held
  or_parts : (a b : Bool) → (a || b) ≡ false → (a ≡ false) × (b ≡ false)
  or_parts true b e = absurd (cc)
  or_parts false b e = (refl, e)

  has_parts : (f : Fid) → has_file f (take (i + 1) tokens) ≡ false →
      (has_file f (take i tokens) ≡ false) × (same_fid token.fid f ≡ false)
  has_parts f e =
      let r = or_parts (has_file f (take i tokens)) (same_fid (get_or tokens i token).fid f)
      (sym (list_any_more (λ (t : Token). same_fid t.fid f) tokens i token low) ∙ e) in
      (r.0, ap (λ (t : Token). same_fid t.fid f) item ∙ r.1)

  pub fewer_held : (m : Tables) → AreHeldBeside m fid (take i tokens) tokens →
      AreHeldBeside m fid (take (i + 1) tokens) tokens
  fewer_held m held t k apart none = held t k apart (has_parts t.fid none).0

  -- the file's tokens are held
  pub held_here : (m : Tables) → AreHeldBeside m fid (take i tokens) tokens → same_fid token.fid fid ≡ false →
      not (has_file token.fid (take i tokens)) ≡ true → AreCovered m token.fid (of_file token.fid tokens)
  held_here m held apart none =
      file_covered m token.fid tokens
      (λ t k e. held t k (ap (λ f. same_fid f fid) (same_fid_is t.fid token.fid e) ∙ apart)
      (ap (λ f. has_file f (take i tokens)) (same_fid_is t.fid token.fid e) ∙ by_not none))
    where
      by_not : not (has_file token.fid (take i tokens)) ≡ true → has_file token.fid (take i tokens) ≡ false
      by_not e = not_true (has_file token.fid (take i tokens)) e
        where
          not_true : (b : Bool) → not b ≡ true → b ≡ false
          not_true true e = sym e
          not_true false e = refl

  pub held_after : (back : List TokenId) (m : Tables) (draft : Draft) (new : Tables) (after : Draft) →
      LeavesFile token.fid tokens back m draft new after → AreHeldBeside m fid (take i tokens) tokens →
      AreHeldBeside new fid (take (i + 1) tokens) tokens
  held_after back m draft new after h held t k apart none =
      let r = has_parts t.fid none in h.stay t (turned r.1) (held t k apart r.0)
    where
      turned : same_fid token.fid t.fid ≡ false → same_fid t.fid token.fid ≡ false
      turned e = by_case (same_fid t.fid token.fid) refl
        where
          by_case : (b : Bool) → same_fid t.fid token.fid ≡ b → same_fid t.fid token.fid ≡ false
          by_case true s =
              absurd (let x = sym (fid_same token.fid t.fid (sym (same_fid_is t.fid token.fid s))) ∙ e in cc)
          by_case false s = s

  -- a step of the walk over the tokens
  abbrev is_other : Bool
  is_other = not (same_fid token.fid fid) && not (has_file token.fid (take i tokens))

  other_parts : is_other ≡ true → (same_fid token.fid fid ≡ false) × (not (has_file token.fid (take i tokens)) ≡ true)
  other_parts h =
      let p = and_parts (not (same_fid token.fid fid)) (not (has_file token.fid (take i tokens))) h in
      (not_true (same_fid token.fid fid) p.0, p.1)
    where
      not_true : (b : Bool) → not b ≡ true → b ≡ false
      not_true true e = sym e
      not_true false e = refl

  module _ (m : Tables) (draft : Draft) (old : Tables) (before : Draft)
      (left : LeaveAll tokens (others_of fid (take i tokens)) [] m draft old before)
      (held : AreHeldBeside old fid (take i tokens) tokens) where
    pub step_covered : is_other ≡ true → AreCovered old token.fid (of_file token.fid tokens)
    step_covered h = let p = other_parts h in held_here old held p.0 p.1

    pub step_left : is_other ≡ true → (new : Tables) (after : Draft)
        → LeavesFile token.fid tokens [] old before new after →
        (t : Tables) → t ≡ new → (d : Draft) → d ≡ after →
        LeaveAll tokens (others_of fid (take (i + 1) tokens)) [] m draft t d
    step_left h new after leaves t e d f =
        let p = other_parts h in
        subst (λ x. LeaveAll tokens (others_of fid (take (i + 1) tokens)) [] m draft x d) (sym e)
        (subst (λ x. LeaveAll tokens (others_of fid (take (i + 1) tokens)) [] m draft new x) (sym f)
        (subst (λ fids. LeaveAll tokens fids [] m draft new after) (others_new p.0 p.1)
        (one_more tokens (others_of fid (take i tokens)) m draft old before token.fid new after left leaves)))

    pub step_held : is_other ≡ true → (new : Tables) (after : Draft)
        → LeavesFile token.fid tokens [] old before new after →
        (t : Tables) → t ≡ new → AreHeldBeside t fid (take (i + 1) tokens) tokens
    step_held h new after leaves t e =
        subst (λ x. AreHeldBeside x fid (take (i + 1) tokens) tokens) (sym e)
        (held_after [] old before new after leaves held)

    pub same_left : is_other ≡ false → (t : Tables) → t ≡ old → (d : Draft) → d ≡ before →
        LeaveAll tokens (others_of fid (take (i + 1) tokens)) [] m draft t d
    same_left h t e d f =
        subst (λ x. LeaveAll tokens (others_of fid (take (i + 1) tokens)) [] m draft x d) (sym e)
        (subst (λ x. LeaveAll tokens (others_of fid (take (i + 1) tokens)) [] m draft old x) (sym f)
        (subst (λ fids. LeaveAll tokens fids [] m draft old before) (others_old h) left))

    pub same_held : (t : Tables) → t ≡ old → AreHeldBeside t fid (take (i + 1) tokens) tokens
    same_held t e =
        subst (λ x. AreHeldBeside x fid (take (i + 1) tokens) tokens) (sym e) (fewer_held old held)

-- after the first file
pub held_beside : (fid : Fid) (tokens : List Token) (back : List TokenId) (m : Tables) (draft : Draft) (new : Tables)
    (after : Draft) → LeavesFile fid tokens back m draft new after → AreHeld m tokens → AreHeldBeside new fid [] tokens
held_beside fid tokens back m draft new after h held t k apart none = h.stay t apart (held t k)

-- what a Revoke is answered, by the parts of what becomes of its tokens
pub answers_is : (m : Tables) (draft : Draft) (fid : Fid) (sorted : Sorted) (given : List FilesetId)
    (kept left : List Token) (back : List TokenId) (sent : Draft) (uses : InUse) (said : Draft) (new : Tables)
    (after : Draft) → given ≡ sorted.given → kept ≡ sorted.kept → left ≡ sorted.left → back ≡ sorted.back →
    sent ≡ sending_given m given draft → uses ≡ pinned m.uses kept →
    said ≡ keeping_all (record m { uses = uses }) kept sent →
    LeaveAll left (fid ∷ others_of fid left) back (record m { uses = uses }) said new after →
    Answers fid sorted m draft new after
answers_is m draft fid sorted given kept left back sent uses said new after e f g b s u k h =
    let tables : record m { uses = uses } ≡ pinned_all sorted.kept m =
    ap (λ x. record m { uses = x }) (u ∙ ap (pinned m.uses) f) in
    let drafts : said ≡ keeping_all m sorted.kept (sending_given m sorted.given draft) =
    k ∙ ap (λ ts. keeping_all m ts sent) f
    ∙ ap (keeping_all m sorted.kept) (s ∙ ap (λ ids. sending_given m ids draft) e) in
    subst (λ x. LeaveAll sorted.left (fid ∷ others_of fid sorted.left) sorted.back x
    (keeping_all m sorted.kept (sending_given m sorted.given draft)) new after) tables
    (subst (λ x. LeaveAll sorted.left (fid ∷ others_of fid sorted.left) sorted.back (record m { uses = uses }) x new
    after) drafts
    (subst (λ x. LeaveAll sorted.left (fid ∷ others_of fid sorted.left) x (record m { uses = uses }) said new after) b
    (subst (λ x. LeaveAll x (fid ∷ others_of fid x) back (record m { uses = uses }) said new after) g h)))
