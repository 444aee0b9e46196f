use Rattle.cc_base.proofs.WrittenTexts.{writes_then}
use Rattle.complgen_man.specs.Page.{titled_options}
use Rattle.complgen_man.proofs.page.write_titled_options.Goals as goal

pub returns : goal.returns
unfolding titled_options
returns g c = writes_then _ _ c.in_ok-put_request.ensures c.write_arguments.ensures
