-- `loading::trivialises` meets its contract. Assumes nothing.
use mathlib.Core.Path.{◌∙◌}
use Rattle.loading.proofs.Trivial.{trivial_decided}
use Rattle.loading.proofs.Undone.{images_undone}
use Rattle.loading.proofs.trivialises.Goals as goal

pub returns : goal.returns
returns c =
    let p = c.requires.1 in
    record {
      answer = λ s images.
          trivial_decided _ _ p.0 p.1.0 _ p.1.1 s images c.assume_images-r.ensures.answer (λ e. rw e at c.eq.ensures) (λ e. rw e at c.eq.ensures);
      table = c.unset_images.ensures ∙ images_undone _ p.0.unset _ _ c.assume_images-r.ensures.table;
    }
