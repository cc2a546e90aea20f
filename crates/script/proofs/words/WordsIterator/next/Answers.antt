use Rattle.std.proofs.Common.{◌≡◌, ◌-◌, ◌∷◌, length, take, drop, sym, ap, ◌∙◌, rules}
use Rattle.std.specs.Option.{unwrap_or}
use Rattle.script.specs.Words.{is_blank, words, words_cut}
use Rattle.script.proofs.Cuts.{no_word, cut_word, to_end, first_or_length}
use Rattle.script.proofs.words.WordsIterator.next.Goals as goal

pub returns-in_err-text : goal.returns-in_err-text
returns-in_err-text c =
    let steps : words_cut c.from_residual.result c.args.self.now ≡ c.args.self.now =
    ap (λ o. words_cut o c.args.self.now) c.from_residual.ensures ∙ no_word c.self.inside.text.now (sym c.first_in_word.ensures ∙ c.in_err-text.was) ∙ c.self.view_is in
    record { steps = steps; goes = search rules }

pub returns : goal.returns
returns c =
    let text = c.self.inside.text.now in
    let behind = to_end c.in_ok-text.field-0 text in
    let rest = take (length text - c.in_ok-text.field-0) (drop c.in_ok-text.field-0 text) in
    let long = c.unwrap_or.ensures ∙ ap (λ o. unwrap_or o (length rest)) c.first_blank.ensures ∙ first_or_length is_blank rest in
    let steps : c.split_at.result.0.now ∷ words c.split_at.result.1.now ≡ c.args.self.now =
    cut_word text rest _ _ _ _ (sym c.first_in_word.ensures ∙ c.in_ok-text.was) behind long c.split_at.ensures.front c.split_at.ensures.back ∙ c.self.view_is in
    record { steps = steps; goes = search rules }
