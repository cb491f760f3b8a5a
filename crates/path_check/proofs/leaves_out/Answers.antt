-- What the words say of vertex v, whose contour is not unentered.
use Rattle.path_check.specs.LeftOut.{says_open}
use Rattle.path_check.proofs.leaves_out.Goals as goal

pub returns-else-contour_word-eq-UNENTERED : goal.returns-else-contour_word-eq-UNENTERED
returns-else-contour_word-eq-UNENTERED c = record {
  says = λ cs ms n l t. says_open cs _ ms n _ l t c.args.v c.requires (λ e. c.if-contour_word-eq-UNENTERED.false (cc)) c.is_open.result c.is_open.ensures;
}
