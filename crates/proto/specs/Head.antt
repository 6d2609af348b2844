-- The numbers at the head of a function.
use Rattle.format.specs.Tree.{Parts}
use Rattle.proto.specs.declared.head.Head.{Head}

abbrev pub head_of : Parts → Head
head_of p =
    record {
      line_defined = p.line_defined;
      last_line_defined = p.last_line_defined;
      num_upvalues = p.num_upvalues;
      num_params = p.num_params;
      is_vararg = p.is_vararg;
      max_stack_size = p.max_stack_size;
    }
