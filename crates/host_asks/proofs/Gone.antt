-- How a call is gone on with, by what the code computed.
use Rattle.std.proofs.Common.{◌≡◌, ◌+◌, ◌∙◌, ◌∷◌, ◌++◌, ◌<◌, ◌↔◌, Bool, Err, List, None, Ok, Option, Result, Some, []}
use Rattle.std.proofs.Common.{ap, false, get_or, if◌then◌else◌, inl, inr, is_some, length, map, refl, subst, sym, take}
use Rattle.std.proofs.Common.{IfOk, IsOkAnd, true, ℕ}
use Rattle.std.proofs.lemmas.List.{take_more}
use Rattle.base_types.specs.declared.ids.Fid.{Fid}
use Rattle.host_asks.specs.Asking.{Doing, doing}
use Rattle.host_asks.specs.Going.{GivesEnded, GivesUse, Goes, GoesOn, begun_at}
use Rattle.host_asks.specs.Going.GivesUse.{EndsIt, IsLost}
use Rattle.host_asks.specs.Going.GoesOn.{IsOpen}
use Rattle.host_cache.specs.Files.{file_key, same_key}
use Rattle.host_cache.specs.Holding.{is_id, tokens_of, with_use}
use Rattle.host_cache.specs.Seen.{Seen, after_set_use, seen}
use Rattle.host_cache.specs.declared.held.Held.{Held}
use Rattle.host_calls.proofs.Owned.{in_tokens, key_of, tokens_in}
use Rattle.host_calls.specs.Answering.{EndsUse, still_used}
use Rattle.host_calls.specs.Looking.{EndsLabel, ending_of, is_settled}
use Rattle.host_calls.specs.declared.looking.Question.{Question}
use Rattle.host_calls.specs.declared.looking.Verdict.{Verdict}
use Rattle.host_calls.specs.declared.looking.Verdict.TheVariants.{Asks, Gives, Syncs}
use Rattle.host_labels.specs.Labels.{use_of}
use Rattle.host_labels.specs.declared.uses.Labelled.{Labelled as UseOf}
use Rattle.host_leaves.specs.Dirtying.{tokens_at}
use Rattle.host_leaves.specs.Giving.{AreCovered, LeavesGiven}
use Rattle.host_tables.proofs.Lists.{in_either}
use Rattle.host_tables.specs.Tables.{held_of, labelled}
use Rattle.host_tables.specs.declared.draft.Draft.{Draft}
use Rattle.host_tables.specs.declared.tables.Tables.{Tables}
use Rattle.run_rules.specs.Past.{In}
use Rattle.run_rules.specs.declared.step.Asked.{Asked}
use Rattle.token_types.specs.declared.token.Token.{Token}
use Rattle.token_types.specs.declared.token.TokenId.{TokenId}
use Rattle.tree_calls.specs.declared.call.Call.{Call}
use Rattle.tree_calls.specs.declared.call.Call.TheVariants.{CloseFile, Unlock}

pub some_not : {A : Type 0} (o : Option A) → is_some o ≡ true → o ≡ None → ⊥
some_not None s e = absurd (cc)
some_not (Some x) s e = absurd (cc)

pub none_is : {A : Type 0} (o : Option A) → is_some o ≡ false → o ≡ None
none_is None s = refl
none_is (Some x) s = absurd (cc)

pub when_answered : {A : Type 0} (b : Bool) (gone left : A) → b ≡ true → gone ≡ (if b then gone else left)
when_answered true gone left e = refl
when_answered false gone left e = absurd (cc)

pub when_open : {A : Type 0} (b : Bool) (gone left : A) → b ≡ false → left ≡ (if b then gone else left)
when_open false gone left e = refl
when_open true gone left e = absurd (cc)

pub begins : (at : Doing) (k : ℕ) (call : Call) (lost : List Fid) (gone : Doing) (answered : Bool) →
    k ≡ at.tables.begun + 1 → lost ≡ [] →
    Goes k call true (doing (record at.tables { begun = k; lost = lost }) at.draft) gone answered →
    Goes (at.tables.begun + 1) call true (begun_at (at.tables.begun + 1) at) gone answered
begins at k call lost gone answered k_is lost_is goes =
    subst (λ (x : ℕ × List Fid). Goes x.0 call true
    (doing (record at.tables { begun = x.0; lost = x.1 }) at.draft) gone answered) (λ i. (k_is i, lost_is i)) goes

pub same_call : (m : Tables) (draft : Draft) (left : Option Asked) → left ≡ None → m.call ≡ None →
    doing (record m { call = left }) draft ≡ doing m draft
same_call m draft left l e = ap (λ (c : Option Asked). doing (record m { call = c }) draft) (l ∙ sym e)

-- the call is put back, if it isn't answered
pub back_so : {E : Type 0} (gone : Result Bool E) (answered : Bool) → gone ≡ Ok answered → (m new : Tables)
    (asked : Asked) → new ≡ (if answered then m else record m { call = Some asked }) →
    IsOkAnd gone (λ b. new ≡ (if b then m else record m { call = Some asked }))
back_so {E} gone answered is m new asked e =
    subst (λ (r : Result Bool E). IsOkAnd r (λ b. new ≡ (if b then m else record m { call = Some asked }))) (sym is) e

pub goes_on : {E : Type 0} (m : Tables) (draft : Draft) (asked : Asked) → m.call ≡ Some asked →
    (left : Option Asked) → left ≡ None → (gone : Result Bool E) (at : Doing) (new : Tables) →
    IfOk gone (λ b. Goes asked.k asked.call false (doing (record m { call = left }) draft) at b) →
    IsOkAnd gone (λ b. new ≡ (if b then at.tables else record at.tables { call = Some asked })) →
    GoesOn (doing m draft) (doing new at.draft)
goes_on m draft asked is left none (Err e) at new goes back = absurd back
goes_on m draft asked is left none (Ok answered) at new goes back =
    IsOpen asked is at answered
    (subst (λ (c : Option Asked). Goes asked.k asked.call false (doing (record m { call = c }) draft) at answered) none
    goes) (by_test answered back)
  where
    by_test : (b : Bool) → new ≡ (if b then at.tables else record at.tables { call = Some asked }) →
        doing new at.draft ≡ (if b then at else record at { tables = record at.tables { call = Some asked } })
    by_test true e = ap (λ (t : Tables). doing t at.draft) e
    by_test false e = ap (λ (t : Tables). doing t at.draft) e

-- ---- tokens that are held
pub not_next : {A : Type 0} (xs : List A) (i : ℕ) (x token : A) → i < length xs → x ≡ get_or xs i x →
    (In token (take i xs) → ⊥) → (x ≡ token → ⊥) → In token (take (i + 1) xs) → ⊥
not_next xs i x token low item none differs k =
    elim (in_either (take i xs) (x ∷ []) token (subst (In token)
    (take_more xs i x low ∙ ap (λ y. take i xs ++ y ∷ []) (sym item)) k)) [
      | inl a ↦ none a
      | inr b ↦ elim b [ inl e ↦ differs (sym e) | inr z ↦ z ]
    ]

pub at_file : (m : Tables) (token : Token) → In token (tokens_at m token.fid) ↔ In token (held_of m)
at_file m token =
    let key = λ (other : Fid). same_key (file_key other) (file_key token.fid) in (
      λ i. (in_tokens m.cache.held token key i).0,
      λ i. tokens_in m.cache.held token key i (key_of token.fid token.fid refl),
    )

use_same : (id : TokenId) (in_use : Bool) (h : Held) → (with_use id in_use h).token ≡ h.token
use_same id in_use h = by_test (is_id id h)
  where
    by_test : (b : Bool) → (if b then record h { in_use = in_use } else h).token ≡ h.token
    by_test true = refl
    by_test false = refl

use_held : (id : TokenId) (in_use : Bool) (held : List Held) → tokens_of (map (with_use id in_use) held)
    ≡ tokens_of held
use_held id in_use [] = refl
use_held id in_use (h ∷ held) =
    let first = use_same id in_use h in
    let rest = use_held id in_use held in
    λ i. first i ∷ rest i

pub ended_held : (m : Tables) (lock : Bool) (label : List ℕ) (used : UseOf) (new : Tables) →
    EndsUse m lock label used new → held_of new ≡ held_of m
ended_held m lock label used new ends =
    ap (λ (s : Seen). tokens_of s.held) ends.shown ∙ by_test (still_used m lock label used)
  where
    by_test : (b : Bool) →
        tokens_of ((if b then seen m.cache else after_set_use (seen m.cache) used.token.id false).held) ≡ held_of m
    by_test true = refl
    by_test false = use_held used.token.id false m.cache.held

pub one_covered : (m : Tables) (token : Token) → In token (held_of m) → AreCovered m token.fid (token ∷ [])
one_covered m token held = by_in
  where
    by_in : (other : Token) → In other (token ∷ []) → In other (held_of m) × (other.fid ≡ token.fid)
    by_in other (inl e) = (subst (λ (t : Token). In t (held_of m)) (sym e) held, ap (λ (t : Token). t.fid) e)
    by_in other (inr i) = elim i [ ]

-- ---- verdicts that answer a call
pub settled_else : (verdict : Verdict) → ((fid : Fid) → verdict ≡ Syncs fid → ⊥) → (verdict ≡ Gives → ⊥) →
    ((question : Question) → verdict ≡ Asks question → ⊥) → is_settled (Ok verdict) ≡ true
settled_else (Syncs fid) syncs gives asks = absurd (syncs fid refl)
settled_else Gives syncs gives asks = absurd (gives refl)
settled_else (Asks question) syncs gives asks = absurd (asks question refl)
settled_else verdict syncs gives asks = refl

-- ---- the end of a label
pub not_ending : (call : Call) → ((label : List ℕ) → call ≡ Unlock label → ⊥) →
    ((label : List ℕ) → call ≡ CloseFile label → ⊥) → EndsLabel call → ⊥
not_ending call unlocks closes ends = by_lock ends.lock ends.call_is
  where
    by_lock : (lock : Bool) → call ≡ ending_of lock ends.label → ⊥
    by_lock true is = unlocks ends.label is
    by_lock false is = closes ends.label is

module _ (at new : Doing) (lock : Bool) (label : List ℕ) (k : ℕ) (call : Call) (call_is : call ≡ ending_of lock label)
    (none : at.tables.ending ≡ None) (used : UseOf) (is : use_of at.tables.uses lock label ≡ Some used)
    (ended : Tables) (ends : EndsUse at.tables lock label used ended) where
  pub ends_label : GivesEnded used k call (doing ended at.draft) new → GivesUse lock label k at new
  ends_label (inl lost) =
      IsLost none used is (λ i. lost.0 (subst (λ (ts : List Token). In used.token ts)
      (sym (ended_held at.tables lock label used ended ends)) i)) ended ends lost.1
  ends_label (inr leaves) =
      EndsIt none used is ended ends (subst (λ (c : Call). LeavesGiven
      (record ended { ending = Some (labelled used) }) at.draft used.token.fid (used.token ∷ [])
      (Some (record { k = k; call = c })) new.tables new.draft) call_is leaves)

pub both_not : (b : Bool) → b ≡ true → b ≡ false → ⊥
both_not b e f = absurd (cc)
