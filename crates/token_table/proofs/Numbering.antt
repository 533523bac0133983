-- The numbers of the tokens that a table grants next.
use Rattle.std.proofs.Common.{◌≡◌, ◌<◌, ◌+◌, ℕ, zero, suc, List, [], ◌∷◌, map, length, get_or, refl, sym, ap, ◌∙◌}
use Rattle.std.proofs.Common.{inl, inr, arith}
use Rattle.std.specs.Prelude.{All}
use Rattle.std.proofs.lemmas.Bool.{true≢false, cases_lt}
use Rattle.std.proofs.lemmas.List.Elements.{All-nil, All-cons}
use Rattle.base_types.specs.declared.ids.HostId.{HostId}
use Rattle.base_types.specs.declared.ids.ServerId.{ServerId}
use Rattle.token_types.specs.Conflicts.{need_of}
use Rattle.token_types.specs.declared.token.Need.{Need}
use Rattle.token_types.specs.declared.token.Token.{Token}
use Rattle.token_table.specs.Tables.{token_for, tokens_from}
use Rattle.token_table.specs.TableLaws.{GrantsEachNeed, GrantsToTheHost, GrantsTheNextNumbers, GrantsNewNumbers}
use Rattle.token_table.specs.TableLaws.{OneNumberOneToken, StaysSound}
use Rattle.token_table.proofs.Sound.{absent_each, sound_granted, ids_both}

module _ (server : ServerId) (epoch : ℕ) (host : HostId) where
  each_need : (last : ℕ) (needs : List Need) → map need_of (tokens_from server epoch last host needs) ≡ needs
  each_need last [] = refl
  each_need last (need ∷ needs) = ap (λ ns. need ∷ ns) (each_need (last + 1) needs)

  all_of : (last : ℕ) (needs : List Need) → All (λ token. token.host ≡ host) (tokens_from server epoch last host needs)
  all_of last [] = All-nil (λ token. token.host ≡ host)
  all_of last (need ∷ needs) = All-cons (λ token. token.host ≡ host) (token_for server epoch last host need)
      (tokens_from server epoch (last + 1) host needs) refl (all_of (last + 1) needs)

  number : (last : ℕ) (needs : List Need) (place : ℕ) (token : Token) → place < length needs →
      (get_or (tokens_from server epoch last host needs) place token).id
      ≡ record { server = server; epoch = epoch; seq = last + 1 + place }
  number last [] place token within = absurd (omega arith)
  number last (need ∷ needs) zero token within =
      (λ i. record { server = server; epoch = epoch; seq = (let e : last + 1 ≡ last + 1 + 0 = omega arith in e i) })
  number last (need ∷ needs) (suc place) token within =
      number (last + 1) needs place token (omega arith)
      ∙ (λ i. record {
        server = server;
        epoch = epoch;
        seq = (let e : last + 1 + 1 + place ≡ last + 1 + suc place = omega arith in e i);
      })

pub grants_each_need : GrantsEachNeed
grants_each_need table host needs = each_need table.server table.epoch host table.last needs

pub grants_to_the_host : GrantsToTheHost
grants_to_the_host table host needs = all_of table.server table.epoch host table.last needs

pub grants_the_next_numbers : GrantsTheNextNumbers
grants_the_next_numbers table host needs place token within =
    number table.server table.epoch host table.last needs place token within

pub grants_new_numbers : GrantsNewNumbers
grants_new_numbers table host needs h = absent_each table host needs h

pub one_number : OneNumberOneToken
one_number table i j token h here there same = elim (cases_lt i j) [
  | inl less ↦ absurd (true≢false (sym same ∙ h.distinct i j token less there))
  | inr more ↦ elim (cases_lt j i) [
    | inl less ↦ absurd (true≢false (sym same
        ∙ ids_both (get_or table.tokens i token).id (get_or table.tokens j token).id
        ∙ h.distinct j i token less here))
    | inr other ↦ omega (arith, more, other)
  ]
]

pub stays_sound : StaysSound
stays_sound table host needs h = sound_granted table host needs h
